-- `code_of` is what the rules 17, 23 to 25, 34 and 26 come to, in the order in which they are judged.
use Prim.Native.Nat.{ℕ}
use mathlib.Core.Path.{◌≡◌, refl}
use mathlib.Core.Bool.{Bool, true, false, not, ◌&&◌}
use mathlib.Core.List.{List, ◌∷◌}
use lib.Dec.{eqb, ltb}
use Rattle.scope.specs.Choice.{pick}
use Rattle.scope.specs.Judge.{Case, Rule, rule, Refusal, refused, outer, first_broken, source_closed, saved_over, cursor_unset, space_wrong, pattern_missing, count_over}
use Rattle.scope.specs.Verdict.{every}
use Rattle.arm.specs.Codes.{code_of}

pub rules-code : (c : Case) (bare : Bool) → bare ≡ pattern_missing c → (rs : List Rule)
    → first_broken every c (rule 17 source_closed ∷ rule 23 saved_over ∷ rule 24 cursor_unset ∷ rule 25 space_wrong ∷ rule 34 pattern_missing ∷ rule 26 count_over ∷ rs)
    ≡ pick (eqb (code_of c.session.opened bare c.seen) 0) (first_broken every c rs) (refused (code_of c.session.opened bare c.seen) outer)
unfolding first_broken source_closed saved_over cursor_unset space_wrong count_over code_of
rules-code c bare is rs =
    rw (← is)
    (go (c.seen.source && not c.session.opened) (ltb 24 c.seen.most) c.seen.lost c.seen.wrong bare (ltb 1_000_000 c.seen.count) (first_broken every c rs))
  where
    code : (a b d e p f : Bool) → ℕ
    code a b d e p f = pick a 17 (pick b 23 (pick d 24 (pick e 25 (pick p 34 (pick f 26 0)))))

    go : (a b d e p f : Bool) (r : Refusal)
        → pick a (refused 17 outer) (pick b (refused 23 outer) (pick d (refused 24 outer) (pick e (refused 25 outer) (pick p (refused 34 outer) (pick f (refused 26 outer) r)))))
        ≡ pick (eqb (code a b d e p f) 0) r (refused (code a b d e p f) outer)
    go true b d e p f r = refl
    go false true d e p f r = refl
    go false false true e p f r = refl
    go false false false true p f r = refl
    go false false false false true f r = refl
    go false false false false false true r = refl
    go false false false false false false r = refl
