-- `one_round`: the motifs before i have had their turn.
-- Assumes nothing.
use Rattle.std.proofs.Common.{◌<◌, ◌≡◌, ap, ◌∙◌, arith, rules}
use Rattle.motif.specs.Search.{few}
use Rattle.rounds.specs.Rounds.{next_of}
use Rattle.settling.proofs.Turning.{turned_more, turned-all}
use Rattle.settling.proofs.settling.one_round.Goals as goal

pub loop-i-preserved : goal.loop-i-preserved
loop-i-preserved c =
    let l = c.loop-i in
    let p = c.next-level in
    let q = c.sum_next-sum in
    let h : l.i < 64 = omega arith in (
      search rules,
      λ ms d e z s w.
          let v = l.invariant.1 ms d e z s w in
          turned_more l.motifs c.args.held ms d l.i v p.result q.result z h (p.ensures ∙ ap (next_of l.motifs (few c.args.held) l.i) e)
          q.ensures.value q.ensures.value_2 (λ m r. q.ensures.sums_as ms m v.keeps s r),
    )

pub returns-clause-rounded : goal.returns-clause-rounded
returns-clause-rounded c = λ ms d f h s w.
    let l = c.loop-i in
    let e : l.i ≡ c.args.held = omega arith in
    turned-all l.motifs c.args.held ms d (rw e at (l.invariant.1 ms d f h s w))
