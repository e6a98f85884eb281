-- `scan_at`: each round goes on, or ends, as the scan from the start does.
-- Assumes nothing.
use Rattle.std.proofs.Common.{◌≡◌, ◌≤◌, ◌<◌, length, true, refl, sym, ◌∙◌, add-one, arith}
use Rattle.std.proofs.lemmas.Result.{err_from_is_err_and}
use Rattle.scope.specs.Item.{scan_at}
use Rattle.scope.proofs.Ends.{after-le}
use Rattle.items.specs.Rows.{rows_of, rows_from}
use Rattle.items.specs.Values.{pair_as}
use Rattle.items.proofs.Rows.{length-pair, ended-none, ended_some}
use Rattle.items.proofs.Pairs.{pair_ends, after_pair, at_end, at_tag, at_pair}
use Rattle.items.proofs.scan.scan_at.Goals.{After-pair_at, In_ok-at}
use Rattle.items.proofs.scan.scan_at.Goals as goal

-- the scan after the pair that was read is that from the start
onto : (c : After-pair_at) → length c.args.attrs.now ≡ 80
    → after_pair c.args.high c.args.s.now (pair_as c.pair_at.result) c.pair_at.new.attrs c.pairs.n ≡ scan_at c.args.high c.args.s.now c.args.start
onto c z =
    let p = c.pairs in
    sym (at_pair c.args.high c.args.s.now p.at c.after_white-at.result c.after_white-at.ensures c.if-s-at.false p.attrs p.n (sym c.between.ensures.value ∙ c.if-between.false)
    (p.invariant.long ∙ z) _ c.pair_at.new.attrs c.pair_at.ensures.value c.pair_at.ensures.attrs_after)
    ∙ p.invariant.same z

pub pairs-init : goal.pairs-init
unfolding rows_of rows_from scan_at
pairs-init c = record { few = omega arith; long = refl; onward = omega arith; same = λ _. refl }

-- a pair that was read ends past where the round began, and there was room for it
room : (c : In_ok-at) → (c.pairs.at < c.in_ok-at.at) × (c.in_ok-at.at ≤ length c.args.s.now) × (c.pairs.n < 16)
room c =
    let h = after-le true c.args.s.now c.pairs.at in
    let g = pair_ends c.args.high c.args.s.now c.after_white-at.result c.pairs.n _ c.in_ok-at.ensures.value in
    (omega (arith, h, g.0, c.after_white-at.ensures), g.1, g.2)

pub pairs-smaller : goal.pairs-smaller
pairs-smaller c = omega (arith, room c)

pub pairs-preserved : goal.pairs-preserved
pairs-preserved c = let r = room c in
    record {
      few = omega (arith, r.2);
      long = rw c.pair_at.ensures.attrs_after (length-pair c.pairs.attrs c.pairs.n _) ∙ c.pairs.invariant.long;
      onward = omega (arith, r.0, c.pairs.invariant.onward);
      same = λ z. rw add-one (rw c.in_ok-at.was at (onto (goal.at.pairs-preserved c).After-pair_at z));
    }

pub returns-in_err-at-clause-attrs_after : goal.returns-in_err-at-clause-attrs_after
returns-in_err-at-clause-attrs_after c = λ z. let q = err_from_is_err_and c.from_residual.result c.from_residual.ensures.1 in
    rw (q.1, q.2) (rw c.in_err-at.was at (onto (goal.at.returns-in_err-at-clause-attrs_after c).After-pair_at z))

pub returns-then-n-eq0-clause-attrs_after : goal.returns-then-n-eq0-clause-attrs_after
returns-then-n-eq0-clause-attrs_after c = λ z. let p = c.pairs in
    sym (ended-none p.attrs c.args.s.now p.n c.if-n-eq0.true) ∙ sym (at_end c.args.high c.args.s.now p.at c.after_white-at.result c.after_white-at.ensures (rows_of p.attrs p.n) c.if-s-at.true) ∙ p.invariant.same z

pub returns-else-n-eq0-clause-attrs_after : goal.returns-else-n-eq0-clause-attrs_after
returns-else-n-eq0-clause-attrs_after c = λ z. let p = c.pairs in
    sym (ended_some p.attrs c.args.s.now p.n c.if-n-eq0.false) ∙ sym (at_end c.args.high c.args.s.now p.at c.after_white-at.result c.after_white-at.ensures (rows_of p.attrs p.n) c.if-s-at.true) ∙ p.invariant.same z

pub returns-then-between-clause-attrs_after : goal.returns-then-between-clause-attrs_after
returns-then-between-clause-attrs_after c = λ z. let p = c.pairs in
    sym (at_tag c.args.high c.args.s.now p.at c.after_white-at.result c.after_white-at.ensures c.if-s-at.false (rows_of p.attrs p.n) (sym c.between.ensures.value ∙ c.if-between.true)) ∙ p.invariant.same z

pub returns-then-between-clause-within : goal.returns-then-between-clause-within
returns-then-between-clause-within c =
    let h = after-le true c.args.s.now c.pairs.at in
    (omega (arith, h, c.after_white-at.ensures), c.if-s-at.false, c.pairs.invariant.few, omega (arith, c.type_inv.s c.after_white-at.result))
