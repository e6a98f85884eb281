-- One operator more: what the operators select themselves, and what is noted of it. A call selects nothing itself.
-- Assumes nothing.
use Prim.Native.Nat.{ℕ}
use mathlib.Core.Path.{◌≡◌, refl, sym, ap, ◌∙◌}
use mathlib.Core.List.{List, [], ◌∷◌, ◌++◌}
use borrow.Author.Tests.{eq-eqb, ne_eqb}
use Rattle.scope.specs.Names.{StreamName}
use Rattle.scope.specs.Setting.{Setting}
use Rattle.scope.specs.Attributes.{bytes_in}
use Rattle.scope.specs.Reading.{Operator}
use Rattle.scope.specs.Arm.{Act, Select, no_pattern, pattern, wanted, act_of}
use Rattle.scope.specs.Motif.{Own, does, calls, own_by}
use Rattle.pattern_rows.specs.Numbers.{numbers_in, collected}
use Rattle.patterns.specs.Selects.{selects_from, selects_in}
use Rattle.within.specs.Judging.{noted_by, Notes}

-- what operators select, one row after the other
selects-append : (os qs : List Own) (ns : List ℕ) → selects_from (os ++ qs) ns ≡ selects_from qs (selects_from os ns)
unfolding selects_from
selects-append [] qs ns = refl
selects-append (does o a ∷ os) qs ns = selects-append os qs (wanted a.select ns)
selects-append (calls o n ∷ os) qs ns = selects-append os qs ns

pub selects-does : (os : List Own) (o : Operator) (a : Act) → selects_in (os ++ (does o a ∷ [])) ≡ wanted a.select (selects_in os)
unfolding selects_from
selects-does os o a = selects-append os (does o a ∷ []) []

selects-calls : (os : List Own) (o : Operator) (n : List ℕ) → selects_in (os ++ (calls o n ∷ [])) ≡ selects_in os
unfolding selects_from
selects-calls os o n = selects-append os (calls o n ∷ []) []

-- what is collected of one number more, or of none more
collected-wanted : (x : Select) (ns : List ℕ) → collected (wanted x ns) ≡ noted_by x (collected ns)
unfolding collected
collected-wanted no_pattern ns = refl
collected-wanted (pattern n) ns = refl

-- an operator whose pattern was noted
does-noted : (was own : List ℕ) (os : List Own) (o : Operator) (a : Act) → numbers_in own 0 ≡ noted_by a.select (numbers_in was 0) → Notes was os
    → Notes own (os ++ (does o a ∷ []))
does-noted was own os o a e h =
    record {
      are = e ∙ ap (noted_by a.select) h.are ∙ sym (collected-wanted a.select (selects_in os)) ∙ ap collected (sym (selects-does os o a));
    }

-- an operator that is no call, as it is read
pub deed-notes : (set : Setting) (s : List ℕ) (o : Operator) (was own : List ℕ) (os : List Own) → (o.tag ≡ 0x5e → ⊥)
    → numbers_in own 0 ≡ noted_by (act_of set s o).select (numbers_in was 0) → Notes was os → Notes own (os ++ (own_by set s o ∷ []))
unfolding own_by
deed-notes set s o was own os n e h = rw (ne_eqb o.tag 0x5e n) (does-noted was own os o (act_of set s o) e h)

-- a call, after which nothing more was noted
calls-noted : (own : List ℕ) (os : List Own) (o : Operator) (n : List ℕ) → Notes own os → Notes own (os ++ (calls o n ∷ []))
calls-noted own os o n h = record { are = h.are ∙ ap collected (sym (selects-calls os o n)) }

pub call-notes : (set : Setting) (s : List ℕ) (o : Operator) (own : List ℕ) (os : List Own) → o.tag ≡ 0x5e → Notes own os
    → Notes own (os ++ (own_by set s o ∷ []))
unfolding own_by
call-notes set s o own os e h = rw (eq-eqb o.tag 0x5e e) (calls-noted own os o (bytes_in s o.attrs StreamName) h)
