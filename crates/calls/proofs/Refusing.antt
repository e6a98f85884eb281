-- A motif with a level is called without a cut and has its summary; one without is refused, by the first of 21, 32, 22 that its call meets.
-- Assumes nothing.
use Prim.Native.Nat.{ℕ, zero, suc, ◌≤◌}
use mathlib.Core.Path.{◌≡◌, refl, sym, ap, ◌∙◌, subst}
use mathlib.Core.Bool.{Bool, true, false, not}
use mathlib.Core.List.{List, []}
use native.Mathlib.Omega.{arith}
use lib.Dec.{eqb}
use borrow.Author.Tests.{eq-eqb, ne_eqb}
use Rattle.std.specs.Prelude.{Some, None, Result, Ok, Err}
use Rattle.scope.specs.Choice.{pick}
use Rattle.scope.specs.Motif.{Motif, Held, held_as, is_held}
use Rattle.scope.specs.Calls.{unfolded, nothing, met}
use Rattle.scope.specs.Judge.{some_missing}
use Rattle.scope.specs.Reach.{Name, lost, fits, holds, called_by}
use Rattle.scope.proofs.Apart.{clash-of}
use Rattle.scope.proofs.Graph.{fits_more}
use Rattle.scope.proofs.Levels.{missing-exactly, nests-exactly}
use Rattle.motif.specs.Held.{Keeps, InRow, Finds, finds_at, finds_none, level_in, sum_in}
use Rattle.motif.specs.Tables.{level_of, settled_row, Settled, Tables}
use Rattle.motif.proofs.Rowed.{held-row}
use Rattle.summary.specs.Sums.{SumsAs}
use Rattle.patterns.specs.Selects.{wants_from}
use Rattle.calls.specs.declared.calls.Called.{Called}
use Rattle.refusal.specs.declared.code.Code.{Code}
use Rattle.refusal.specs.declared.code.Code.TheVariants as code_is
use Rattle.calls.specs.Judged.{Calls, calls_sum, calls_missing, calls_deep}
use Rattle.calls.proofs.Marking.{alike}

-- the rows in use are those held
pub used : {t : List ℕ} {held n : ℕ} {ms : List Motif} → (held ≤ 64 → n ≡ held) → Tables t held ms → Tables t n ms
used e h = rw (e h.keeps.most) h

-- a table that shows who is lost within 32 calls shows who meets a name that is not held
pub lost-is : (ms : List Motif) (x : Name) → lost (holds ms) (called_by ms) 32 x ≡ (met ms 32 [] x).missing
lost-is ms x = let e = missing-exactly ms 32 x in alike (lost (holds ms) (called_by ms) 32 x) (met ms 32 [] x).missing e.1 e.0

-- a name that is not held
unheld : (ms : List Motif) (d : ℕ) (name : Name) → held_as name ms ≡ Held.none → lost (holds ms) (called_by ms) d name ≡ true
unfolding lost is_held
unheld ms zero name h = rw h refl
unheld ms (suc d) name h = rw h refl

pub calls-nowhere : {of_page of_session : List ℕ} {ms : List Motif} (name : Name) → Finds ms name None → Calls of_page of_session ms name (Err code_is.NotHeld)
calls-nowhere {ms = ms} name (finds_none h) = calls_missing ((missing-exactly ms 32 name).1 (unheld ms 32 name h))

-- a name that is held means the motif of its row
pub calls_at : {of_page of_session t : List ℕ} {n i : ℕ} {ms : List Motif} {r : Result Called Code} (name : Name) → Keeps t n ms → Finds ms name (Some i)
    → ((m : Motif) → InRow ms i m → Calls of_page of_session ms m.name r) → Calls of_page of_session ms name r
calls_at {of_page} {of_session} {ms = ms} {r = r} name k (finds_at {m = m} h q) f =
    subst (λ x. Calls of_page of_session ms x r) (held-row name k.rows h).0 (f m q)

-- a level up to d is there exactly if the motif nests within d
level-fits : (ms : List Motif) (d : ℕ) (x : Name) → eqb (level_of ms d x) 0 ≡ not (fits (holds ms) (called_by ms) d x)
unfolding level_of fits
level-fits ms zero x = refl
level-fits ms (suc d) x = by (eqb (level_of ms d x) 0) refl (fits (holds ms) (called_by ms) d x) refl (fits (holds ms) (called_by ms) (suc d) x) refl (level-fits ms d x)
  where
    by : (b : Bool) → eqb (level_of ms d x) 0 ≡ b → (c : Bool) → fits (holds ms) (called_by ms) d x ≡ c → (e : Bool) → fits (holds ms) (called_by ms) (suc d) x ≡ e
        → eqb (level_of ms d x) 0 ≡ not (fits (holds ms) (called_by ms) d x) → eqb (pick b (pick e (suc d) 0) (level_of ms d x)) 0 ≡ not e
    by true b c f true e ih = ne_eqb (suc d) 0 (λ z. omega arith)
    by true b c f false e ih = refl
    by false b true f true e ih = b
    by false b true f false e ih = clash-of (sym (fits_more (holds ms) (called_by ms) d x f) ∙ e)
    by false b false f e g ih = clash-of (sym (sym b ∙ ih ∙ ap not f))

module _ {t : List ℕ} {ms : List Motif} {i : ℕ} {m : Motif} (settled : Settled t ms 32) (here : InRow ms i m) where
  -- a motif with a level
  pub calls-level : {of_page of_session : List ℕ} {r : Called} → (level_in t i ≡ 0 → ⊥) → r.sum ≡ sum_in t i
      → r.bare ≡ some_missing of_page of_session (wants_from (unfolded ms 32 [] m.name) [])
      → Calls of_page of_session ms m.name (Ok r)
  unfolding settled_row
  calls-level h e w =
      let z : eqb (level_in t i) 0 ≡ false = ne_eqb (level_in t i) 0 h in
      calls_sum ((nests-exactly ms 31 m.name).1 (fit (fits (holds ms) (called_by ms) 32 m.name) refl (sym z ∙ ap (λ l. eqb l 0) (settled.level i m here) ∙ level-fits ms 32 m.name)))
      (rw e (subst (λ b. SumsAs (sum_in t i) (pick b [] (unfolded ms 32 [] m.name))) z (settled.summed i m here))) w
    where
      fit : (b : Bool) → fits (holds ms) (called_by ms) 32 m.name ≡ b → false ≡ not b → b ≡ true
      fit true e f = refl
      fit false e f = clash-of (sym f)

  -- a motif without one: what its call meets is not nothing
  some-met : level_in t i ≡ 0 → met ms 32 [] m.name ≡ nothing → ⊥
  some-met h e =
      let f : fits (holds ms) (called_by ms) 32 m.name ≡ true = (nests-exactly ms 31 m.name).0 e in
      let z : eqb (level_in t i) 0 ≡ true = eq-eqb (level_in t i) 0 h in
      clash-of (sym z ∙ ap (λ l. eqb l 0) (settled.level i m here) ∙ level-fits ms 32 m.name ∙ ap not f)

  pub calls-left : {of_page of_session : List ℕ} → level_in t i ≡ 0 → (met ms 32 [] m.name).missing ≡ false → (met ms 32 [] m.name).again ≡ false
      → Calls of_page of_session ms m.name (Err code_is.Deep)
  calls-left h a b = calls_deep a b (by (met ms 32 [] m.name).deep refl)
    where
      by : (c : Bool) → (met ms 32 [] m.name).deep ≡ c → c ≡ true
      by true d = refl
      by false d = absurd (some-met h (λ j. record { missing = a j; again = b j; deep = d j }))
