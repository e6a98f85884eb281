-- Two jobs beside each other, in states that are the same but for their places in the bytes and for what went before: of operators that say the same the rules say
-- the same, but for 26 and 28, and the states after them are the same in that sense.
-- Assumes nothing.
use Prim.Native.Nat.{ℕ, ◌+◌, ◌-◌, ◌*◌}
use mathlib.Core.Path.{◌≡◌, refl, sym, ap, ◌∙◌, subst, subst₂}
use mathlib.Core.Bool.{Bool, true, false, ◌&&◌}
use mathlib.Core.List.{List, [], ◌∷◌, ◌++◌}
use native.Mathlib.Omega.{arith}
use lib.Dec.{ltb}
use Rattle.scope.specs.Choice.{pick}
use Rattle.scope.specs.Reading.{Operator, Read}
use Rattle.scope.specs.Setting.{Setting}
use Rattle.scope.specs.Judge.{State, Case, Refusal, case_of, early, armed, limits, rules, first_broken, outer, count_over, room_over, after}
use Rattle.scope.specs.Claims.{limit}
use Rattle.scope.specs.Runs.{read_at, case_at, next}
use Rattle.scope.proofs.Says.{Akin, Says, LikePlace, same_place, session-same, uncounted, LikeCase, broken-is, AlikeGiven, before-like, case_like, place-like}
use Rattle.scope.proofs.Broken.{or_else}

-- the first is, one by one, a start of the second
pub data Starts (Op : Operator → Operator → Type 0) : List Operator → List Operator → Type 0 where
  none : {m : List Operator} → Starts Op [] m
  more : {a b : Operator} {l m : List Operator} → Op a b → Starts Op l m → Starts Op (a ∷ l) (b ∷ m)

-- two refusals that agree; or they differ, and one of them is 26 or 28
pub data Both : Refusal → Refusal → Type 0 where
  agree : {f : Refusal} → Both f f
  left_over : {code inner : ℕ} {g : Refusal} → limit code ≡ true → (Refusal.refused code inner ≡ g → ⊥) → Both (Refusal.refused code inner) g
  right_over : {code inner : ℕ} {f : Refusal} → limit code ≡ true → (f ≡ Refusal.refused code inner → ⊥) → Both f (Refusal.refused code inner)

abbrev code_of : Refusal → ℕ
code_of Refusal.none = 0
code_of (Refusal.refused code inner) = code

differ : (f g : Refusal) → (code_of f ≡ code_of g → ⊥) → f ≡ g → ⊥
differ f g h e = h (ap code_of e)

pick-both : (a b c d : Bool)
    → Both (pick a (Refusal.refused 26 outer) (pick b (Refusal.refused 28 outer) Refusal.none)) (pick c (Refusal.refused 26 outer) (pick d (Refusal.refused 28 outer) Refusal.none))
pick-both true b true d = agree
pick-both true b false true = left_over refl (differ (Refusal.refused 26 outer) (Refusal.refused 28 outer) (λ e. omega arith))
pick-both true b false false = left_over refl (differ (Refusal.refused 26 outer) Refusal.none (λ e. omega arith))
pick-both false true true d = left_over refl (differ (Refusal.refused 28 outer) (Refusal.refused 26 outer) (λ e. omega arith))
pick-both false true false true = agree
pick-both false true false false = left_over refl (differ (Refusal.refused 28 outer) Refusal.none (λ e. omega arith))
pick-both false false true d = right_over refl (differ Refusal.none (Refusal.refused 26 outer) (λ e. omega arith))
pick-both false false false true = right_over refl (differ Refusal.none (Refusal.refused 28 outer) (λ e. omega arith))
pick-both false false false false = agree

module _ (given other : ℕ → Bool) (alike : AlikeGiven given other) where
  limits-both : (room space : ℕ) (c d : Case) → Both (first_broken given c (limits room)) (first_broken other d (limits space))
  unfolding first_broken limits
  limits-both room space c d = pick-both (given 26 && count_over c) (given 28 && room_over room c) (other 26 && count_over d) (other 28 && room_over space d)

  else_both : (x f g : Refusal) → Both f g → Both (or_else x f) (or_else x g)
  else_both Refusal.none f g h = h
  else_both (Refusal.refused code inner) f g h = agree

  -- the rules say the same of both, or it is 26 or 28 that they say of one
  pub both : (room space : ℕ) {m n r q : ℕ} {c d : Case} → LikeCase m n r q c d → Both (first_broken given c (rules room)) (first_broken other d (rules space))
  both room space {c = c} {d = d} h =
      subst₂ Both (sym (broken-is given room c)) (ap (λ x. or_else x (first_broken other d (limits space))) (before-like h given other alike) ∙ sym (broken-is other space d))
      (else_both (first_broken given c (early ++ armed)) _ _ (limits-both room space c d))

  -- where the numbers before and the rooms are the same, the rules say the same
  pub equal_broken : (room space : ℕ) {m n r q : ℕ} {c d : Case} → LikeCase m n r q c d → ((k : ℕ) → given k ≡ other k) → m ≡ n → r ≡ q → room ≡ space
      → first_broken given c (rules room) ≡ first_broken other d (rules space)
  unfolding first_broken limits count_over room_over
  equal_broken room space {c = c} {d = d} h g en eo er =
      let ec : c.seen.count ≡ d.seen.count = let k = h.count in omega arith in
      let ed : c.records ≡ d.records = let k = h.records in omega arith in
      broken-is given room c
      ∙ (λ i. or_else (before-like h given other alike i)
      (pick (g 26 i && ltb 1_000_000 (ec i)) (Refusal.refused 26 outer) (pick (g 28 i && ltb (er i) (ed i * 16)) (Refusal.refused 28 outer) Refusal.none)))
      ∙ sym (broken-is other space d)

-- two jobs; their places that belong together; m and n operators, r and q records before
module _ (given other : ℕ → Bool) (alike : AlikeGiven given other) (set turned : Setting) (akin : Akin set turned) (s t : List ℕ)
    (At : ℕ → ℕ → Type 0) (m n r q : ℕ) where
  -- two states that are the same but for their places in the bytes and for what went before
  pub record LikeState (x y : State) : Type 0 where
    pub at : At x.at y.at
    pub place : LikePlace (read_at given set s x ≡ Read.ended → ⊥) x.place y.place
    pub performed : x.performed + n ≡ y.performed + m
    pub records : x.records + q ≡ y.records + r

  -- the place after an operator is the same
  pub next_place : (x y : State) (a b : Operator) → LikeState x y → Says set.high turned.high s t a b → (next set s x a).place ≡ (next turned t y b).place
  unfolding after case_of uncounted
  next_place x y a b l h =
      let c = case_like set turned akin s t a b h x y (session-same l.place) in
      place-like set turned akin s t a b h (case_at set s x a).seen.page (case_at turned t y b).seen.page (ap (λ w. w.page) c.seen) l.place

  -- and so is the state, in that sense
  pub next_like : (x y : State) (a b : Operator) → LikeState x y → Says set.high turned.high s t a b → At a.next b.next
      → LikeState (next set s x a) (next turned t y b)
  unfolding after case_of uncounted
  next_like x y a b l h e =
      let c = case_like set turned akin s t a b h x y (session-same l.place) in
      let u = l.performed in
      let v = l.records in
      let cu = c.count in
      let cr = c.records in
      record {
        at = e;
        place = subst (λ w. LikePlace (read_at given set s (next set s x a) ≡ Read.ended → ⊥) (next set s x a).place w)
            (next_place x y a b l h) same_place;
        performed = omega arith;
        records = omega arith;
      }
