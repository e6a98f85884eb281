-- The rules after reading, but for that of the room: what the code finds is the first rule broken.
-- Assumes nothing.
use Rattle.std.specs.Prelude.{Result, Ok, Err}
use Prim.Native.Nat.{ℕ, ◌<◌}
use mathlib.Core.Path.{◌≡◌, refl, sym, ap, ◌∙◌, subst}
use mathlib.Core.Bool.{Bool, true, false}
use mathlib.Core.List.{List, [], ◌∷◌, ◌++◌}
use borrow.Author.Tests.{eqb-true, eq-eqb, ne_eqb}
use lib.Dec.{eqb}
use Rattle.scope.specs.Setting.{Setting}
use Rattle.scope.specs.Choice.{pick}
use Rattle.scope.specs.Attributes.{bytes_in}
use Rattle.scope.specs.Reading.{Operator}
use Rattle.scope.specs.Arm.{idle, act_of, walk, from, Stroke, Seen}
use Rattle.scope.specs.Calls.{unfolded}
use Rattle.scope.specs.Session.{Session, page_of, row_for}
use Rattle.scope.specs.Judge.{State, Case, case_of, Rule, rule, Refusal, refused, outer, first_broken, rules, room_over, pattern_missing, armed, limits}
use Rattle.scope.specs.Verdict.{every}
use Rattle.arm.specs.Codes.{code_of}
use Rattle.summary.specs.Sums.{SumsAs}
use Rattle.arm.specs.Holds.{Moves, moves_to, moves_no}
use Rattle.arm.proofs.Rules.{rules-code}
use Rattle.arm.proofs.Clean.{clean_code}
use Rattle.arm.specs.declared.moved.Moved.{Moved}
use Rattle.refusal.specs.declared.code.Code.{Code}
use Rattle.refusal.proofs.Numbers.{no_pass}
use Rattle.early.specs.Earlier.{Earlies, Unbroken, early_call, early_no}
use Rattle.early.proofs.Full.{unbroken_first}
use Rattle.early.specs.declared.early.Early.TheVariants as early_is
use Rattle.refusal.specs.declared.refusal.Refusal.{Refusal as CodeRefusal}
use Rattle.refusal.specs.Codes.{number_of}
use Rattle.ruling.specs.Judged.{Judgement, judged_to, judged_no}

-- the row of an operator that is no call, and of a call
module _ (set : Setting) (s : List ℕ) (st : State) (x : Session) (o : Operator) where
  pub seen_plain : eqb o.tag 0x5e ≡ false
      → walk (record { motif = 0; op = o; act = act_of set s o } ∷ []) (from (page_of x.busy) st.performed) ≡ (case_of set s st x o).seen
  unfolding case_of row_for
  seen_plain e = rw e

  pub seen-call : eqb o.tag 0x5e ≡ true
      → walk (record { motif = 0; op = o; act = idle } ∷ unfolded x.held 32 [] (bytes_in s o.attrs 139)) (from (page_of x.busy) st.performed) ≡ (case_of set s st x o).seen
  unfolding case_of row_for
  seen-call e = rw e

-- the rules of the state, and behind them that of the room
abbrev later : ℕ → List Rule
later room = armed ++ limits room

last-rule : (room : ℕ) (c : Case) → first_broken every c (rule 28 (room_over room) ∷ []) ≡ pick (room_over room c) (refused 28 outer) Refusal.none
unfolding first_broken
last-rule room c = refl

module _ (c : Case) (u : Unbroken c) (bare : Bool) (is : bare ≡ pattern_missing c) where
  abbrev code : ℕ
  code = code_of c.session.opened bare c.seen

  by_code : (room : ℕ) → first_broken every c (rules room) ≡ pick (eqb code 0) (first_broken every c (rule 28 (room_over room) ∷ [])) (refused code outer)
  unfolding rules armed limits
  by_code room = unbroken_first u (later room) ∙ rules-code c bare is (rule 28 (room_over room) ∷ [])

  -- what the arm answers is what these rules come to
  pub moved-judged : {m : Result Moved Code} {w : Seen} → w ≡ c.seen → Moves c.session.opened bare m w → Judgement c outer m
  moved-judged {m} e h = go_on (subst (λ v. Moves c.session.opened bare m v) e h)
    where
      go_on : {m : Result Moved Code} → Moves c.session.opened bare m c.seen → Judgement c outer m
      go_on (moves_to z p n) =
          judged_to (λ room. by_code room ∙ rw (eq-eqb code 0 z) (last-rule room c)) p n (clean_code c.session.opened bare c.seen z).count
      go_on (moves_no {k = k} e) =
          judged_no {code = k} (λ room. by_code room ∙ rw (ne_eqb code 0 (λ z. no_pass k (e ∙ z))) (ap (λ x. refused x outer) (sym e)))

-- one of the earlier rules is broken, and its place fits a verdict
pub early-refused : {t p : List ℕ} {c : Case} {r : CodeRefusal} → Earlies t p c (Err r) → (room : ℕ) → first_broken every c (rules room) ≡ refused (number_of r.code) r.place
unfolding rules
early-refused (early_no f l) room = f (later room)

-- and it is what the operator is judged to
pub early-judged : {t p : List ℕ} {c : Case} {r : CodeRefusal} → Earlies t p c (Err r) → Judgement c r.place (Err r.code)
early-judged e = judged_no (early-refused e)

pub early-fits : {t p : List ℕ} {c : Case} {r : CodeRefusal} → Earlies t p c (Err r) → r.place < 4_294_967_296
early-fits (early_no f l) = l

-- EndStream is no call
pub held-call : (tag : ℕ) → eqb tag 0x5d ≡ true → eqb tag 0x5e ≡ false
held-call tag e = rw (eqb-true tag 0x5d e) refl

-- what the arm answers to an operator in the page where the session stands
module _ (set : Setting) (s : List ℕ) (st : State) (x : Session) (o : Operator) (b : Bool) (n : ℕ) (m : Result Moved Code) (opened : b ≡ x.opened) (performed : n ≡ st.performed) where
  there : (bare : Bool) (w : ℕ → Seen) → Moves b bare m (w n) → Moves x.opened bare m (w st.performed)
  there bare w h = subst (λ k. Moves x.opened bare m (w k)) performed (subst (λ t. Moves t bare m (w n)) opened h)

  pub plain-judged : Unbroken (case_of set s st x o) → eqb o.tag 0x5e ≡ false → (bare : Bool) → bare ≡ pattern_missing (case_of set s st x o)
      → Moves b bare m (walk (record { motif = 0; op = o; act = act_of set s o } ∷ []) (from (page_of x.busy) n)) → Judgement (case_of set s st x o) outer m
  unfolding case_of
  plain-judged u e bare is h =
      moved-judged (case_of set s st x o) u bare is (seen_plain set s st x o e)
      (there bare (λ k. walk (record { motif = 0; op = o; act = act_of set s o } ∷ []) (from (page_of x.busy) k)) h)

  pub call-judged : (t p : List ℕ) (v : ℕ) (bare : Bool) → Earlies t p (case_of set s st x o) (Ok (early_is.Call v bare))
      → ((row : List Stroke) → SumsAs v row → Moves b bare m (walk (record { motif = 0; op = o; act = idle } ∷ row) (from (page_of x.busy) n)))
      → Judgement (case_of set s st x o) outer m
  unfolding case_of
  call-judged t p v bare (early_call e k is u) h =
      moved-judged (case_of set s st x o) u bare is (seen-call set s st x o e)
      (there bare (λ k. walk (record { motif = 0; op = o; act = idle } ∷ unfolded x.held 32 [] (bytes_in s o.attrs 139)) (from (page_of x.busy) k))
      (h (unfolded x.held 32 [] (bytes_in s o.attrs 139)) k))
