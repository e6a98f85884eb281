-- Sessions are isolated: from outside a session on, only the bytes from there matter; 26 and 28 look at the numbers performed and listed before, and nothing else
-- does.
-- Assumes nothing.
use Prim.Native.Nat.{ℕ, ◌-◌, ◌≤◌, ◌<◌}
use mathlib.Core.Path.{◌≡◌, refl, sym, ap, ◌∙◌, subst, subst₂, subst⁻¹}
use mathlib.Core.Bool.{Bool, false}
use mathlib.Core.List.{List}
use native.Mathlib.Omega.{arith}
use borrow.Author.Tests.{le-ltb}
use lib.ListN.{length, drop, length-drop}
use Rattle.scope.specs.Item.{after as blackAfter}
use Rattle.scope.specs.Reading.{Operator, Read, operator_at}
use Rattle.scope.specs.Setting.{Setting}
use Rattle.scope.specs.Session.{outside}
use Rattle.scope.specs.Judge.{State, Outcome, context_of, judged_from}
use Rattle.scope.specs.Verdict.{every, judged_after, entry_of, outcome_at, outcome_of}
use Rattle.scope.specs.Runs.{read_at, ended, onto}
use Rattle.scope.specs.Claims.{Further, Reached, limit, OperatorsMoved, SameFrom, Alike, Isolated}
use Rattle.scope.proofs.Ends.{after-le}
use Rattle.scope.proofs.Runs.{runs_of, runs-judged, runs_past, ends-state}
use Rattle.scope.proofs.Says.{akin_refl, LikePlace, outsides, session-same, phase-same}
use Rattle.scope.proofs.Apart.{clash-of}
use Rattle.scope.proofs.Goes.{read_goes}
use Rattle.scope.proofs.Moved.{starts-back, pairwise_listed, starts-listed}
use Rattle.scope.proofs.Twice.{TwoEnds, both_end, first_ends, second_ends, two-judged}
use Rattle.scope.proofs.Beside.{LikeState}
use Rattle.scope.proofs.Like.{Far, far-start, far-end, read-like}
use Rattle.scope.proofs.Alike.{LikeRead}

-- what an outcome lists are the operators of its run, before those already there
pub judged-past : (given : ℕ → Bool) (set : Setting) (s : List ℕ) (room : ℕ) (st : State)
    → (judged_from given set s room st).state.past ≡ onto (runs_of given set s room st).ops st.past
judged-past given set s room st =
    let c = runs_of given set s room st in
    ap (λ z. z.past) (ends-state given set s room c.ends) ∙ runs_past given set s room c.runs

module _ (s t : List ℕ) (a b : State) (hp : a.at ≤ length s) (hq : b.at ≤ length t) (same_bytes : drop a.at s ≡ drop b.at t) (set : Setting) (room space : ℕ) where
  abbrev pub F : ℕ → ℕ → Type 0
  F = Far s t a.at b.at hp hq same_bytes

  alike_of : {os ps : List Operator} {e f : Outcome}
      → TwoEnds every every (λ k _. refl) set set akin_refl s t (Further a.at b.at) F a.performed b.performed a.records b.records room space os ps e f
      → e.state.past ≡ onto os a.past → f.state.past ≡ onto ps b.past → Alike a b room space e f
  alike_of (both_end k c d i u v) x y =
      Alike.same
      (record {
        code = c;
        position = d;
        inner = i;
        performed = u;
        records = v;
        listed = subst₂ (OperatorsMoved (Further a.at b.at) a.past b.past) (sym x) (sym y) (pairwise_listed k OperatorsMoved.start);
      })
  alike_of (first_ends c k d) x y =
      let z : OperatorsMoved (Further a.at b.at) a.past b.past a.past b.past = OperatorsMoved.start in
      let l = starts-listed k z in
      Alike.first_cut
      (record {
        over = c;
        later = l.later;
        until = l.until;
        parts = y ∙ l.parts;
        listed = subst⁻¹ (λ z. OperatorsMoved (Further a.at b.at) a.past b.past z l.until) x l.listed;
        differs = d (λ _. refl);
      })
  alike_of (second_ends c k d) x y =
      let z : OperatorsMoved (Further b.at a.at) b.past a.past b.past a.past = OperatorsMoved.start in
      let l = starts-listed (starts-back (Further a.at b.at) (Further b.at a.at) (λ x y h. sym h) k) z in
      Alike.second_cut
      (record {
        over = c;
        later = l.later;
        until = l.until;
        parts = x ∙ l.parts;
        listed = subst⁻¹ (λ z. OperatorsMoved (Further b.at a.at) b.past a.past z l.until) y l.listed;
        differs = λ n r z. d (λ _. refl) (sym n) (sym r) (sym z);
      })

  abbrev pub St : State → State → Type 0
  St = LikeState every every (λ k _. refl) set set akin_refl s t F a.performed b.performed a.records b.records

  pub reads_both : (x y : State) → St x y → LikeRead set.high set.high s t (Further a.at b.at) F (read_at every set s x) (read_at every set t y)
  unfolding context_of
  reads_both x y l =
      subst (λ c. LikeRead set.high set.high s t (Further a.at b.at) F (read_at every set s x) (operator_at c t y.at))
      (λ i. record { set = set; phase = phase-same l.place i; opened = (session-same l.place i).opened; asked = every 17 })
      (read-like s t a.at b.at hp hq same_bytes (Further a.at b.at) F (λ x y h. h.far) (λ x y h. h) (context_of every set x.place) l.at)

  -- from two states on that are the same but for their places in the bytes and for what went before
  pub alike_from : St a b → Alike a b room space (judged_from every set s room a) (judged_from every set t space b)
  alike_from l =
      alike_of
      (two-judged every every (λ k _. refl) set set akin_refl s t (Further a.at b.at) F a.performed b.performed a.records b.records room space
      (far-end s t a.at b.at hp hq same_bytes).far reads_both a b l)
      (judged-past every set s room a) (judged-past every set t space b)

  -- so from two states outside a session on
  judged-alike : (v w : Bool) → a.place ≡ outside v → b.place ≡ outside w → blackAfter s a.at < length s
      → Alike a b room space (judged_from every set s room a) (judged_from every set t space b)
  judged-alike v w ea eb goes =
      let more = read_at every set s a ≡ Read.ended → ⊥ in
      alike_from
      (record {
        at = far-start s t a.at b.at hp hq same_bytes;
        place = subst₂ (LikePlace more) (sym ea) (sym eb) (outsides (read_goes (context_of every set a.place) s a.at goes));
        performed = omega arith;
        records = omega arith;
      })

-- the outcome of a job is that of the state which it comes to
pub reached-judged : (set : Setting) (job : List ℕ) (work room : ℕ) (st : State) → 16384 ≤ work → length job ≤ 61440 → Reached set job room st
    → outcome_of set.gray every job work room ≡ judged_from every set job room st
unfolding outcome_of outcome_at judged_after entry_of
reached-judged set job work room st h k b =
    rw (le-ltb work 16384 h, le-ltb 61440 (length job) k, b.header) (runs-judged every set job room b.runs)

pub isolated : Isolated
isolated set job other work work' room space a b h k l m x y same_bytes goes =
    let i = after-le set.high job a.at in
    let d : length job - a.at ≡ length other - b.at = sym (length-drop a.at job) ∙ ap length same_bytes ∙ length-drop b.at other in
    subst₂ (Alike a b room space) (sym (reached-judged set job work room a h l x.there)) (sym (reached-judged set other work' space b k m y.there))
    (judged-alike job other a b (omega arith) (omega arith) same_bytes set room space x.after_one y.after_one x.stands y.stands goes)

-- where neither is 26 or 28, the same from there on
pub alike_same : {a b : State} {room space : ℕ} {e f : Outcome} → Alike a b room space e f → limit e.code ≡ false → limit f.code ≡ false → SameFrom a b e f
alike_same (Alike.same h) u v = h
alike_same (Alike.first_cut h) u v = clash-of (sym h.over ∙ u)
alike_same (Alike.second_cut h) u v = clash-of (sym h.over ∙ v)

-- where the same numbers were performed and listed before, and the rooms are the same, then too
pub alike-equal : {a b : State} {room space : ℕ} {e f : Outcome} → Alike a b room space e f → a.performed ≡ b.performed → a.records ≡ b.records → room ≡ space → SameFrom a b e f
alike-equal (Alike.same h) u v w = h
alike-equal (Alike.first_cut h) u v w = absurd (h.differs u v w)
alike-equal (Alike.second_cut h) u v w = absurd (h.differs (sym u) (sym v) (sym w))
