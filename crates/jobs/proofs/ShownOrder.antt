-- The byte order at work: J of 01 with the low byte first, and with the high byte first. Its items are the same, so the theorem speaks of them.
-- Assumes nothing.
use Prim.Native.Nat.{ℕ, zero, suc, ◌+◌, ◌*◌, ◌≤◌, ◌<◌}
use mathlib.Core.Path.{◌≡◌, refl, sym, ap, ◌∙◌, subst}
use mathlib.Core.Bool.{Bool, true, false}
use mathlib.Core.List.{List, [], ◌∷◌, ◌++◌}
use native.Mathlib.Omega.{arith}
use lib.ListN.{length, get_or}
use Rattle.scope.specs.Choice.{between}
use Rattle.scope.specs.Number.{digits, number}
use Rattle.scope.specs.Header.{Header, one, may_stand, form_from, classed, header_of}
use Rattle.scope.specs.Setting.{Setting}
use Rattle.scope.specs.Item.{Kind, plain, array, other, width_of, kind_of, Value, numbers_at, value_of, white}
use Rattle.scope.specs.Verdict.{every, outcome_of}
use Rattle.scope.specs.Claims.{value_at, leads, is_number, is_data, led_by, ItemFrom, first, behind_white, behind_tag, behind_value, behind_number, behind_data, SameItem, SameOutcome}
use Rattle.scope.proofs.Apart.{clash-of}
use Rattle.jobs.proofs.Parts.{HB, SB, E, J}
use Rattle.jobs.proofs.Shown.{low}
use Rattle.scope.proofs.ByteOrder.{byte_order}

-- J, high byte first
abbrev pub K : List ℕ
K = HB ++ (SB ++ E)

abbrev pub up : Setting
up = record { class = one; high = true; gray = false }

past-zero : (s : List ℕ) (x : ℕ) → length s ≤ x → get_or s x 0 ≡ 0
past-zero [] x h = refl
past-zero (b ∷ s) zero h = absurd (omega arith)
past-zero (b ∷ s) (suc x) h = past-zero s x (omega arith)

-- where its items begin, and the places past its end
data Spot : ℕ → Type 0 where
  measure : Spot 16
  measure_number : Spot 18
  units : Spot 20
  units_number : Spot 25
  begin : Spot 27
  end : Spot 28
  past : {x : ℕ} → 29 ≤ x → Spot x

abbrev is_value : Value → Bool
is_value (Value.is c f n) = true
is_value (Value.no code place) = false

abbrev next_of : Value → ℕ
next_of (Value.is c f n) = n
next_of (Value.no code place) = 0

abbrev first_in : Value → ℕ
first_in (Value.is c f n) = f
first_in (Value.no code place) = 0

abbrev many_of : Kind → ℕ
many_of (plain n w) = n
many_of (array w) = 0
many_of other = 0

abbrev wide_of : Kind → ℕ
wide_of (plain n w) = w
wide_of (array w) = w
wide_of other = 0

past_value : (h : Bool) (s : List ℕ) (x n : ℕ) → length s ≤ x → value_at h s x n ≡ Value.no 6 x
unfolding value_of kind_of width_of
past_value h s x n l = rw (past-zero s x l) refl

after-value : {x c f n : ℕ} → Spot x → value_at false J x 0 ≡ Value.is c f n → Spot n
unfolding value_of kind_of width_of numbers_at
after-value measure e = subst Spot (ap next_of e) measure_number
after-value measure_number e = clash-of (sym (ap is_value e))
after-value units e = subst Spot (ap next_of e) units_number
after-value units_number e = clash-of (sym (ap is_value e))
after-value begin e = clash-of (sym (ap is_value e))
after-value end e = clash-of (sym (ap is_value e))
after-value (past {x = x} h) e = clash-of (sym (ap is_value e) ∙ ap is_value (past_value false J x 0 h))

after-white : {x : ℕ} → Spot x → white (get_or J x 0) ≡ true → Spot (suc x)
unfolding white
after-white measure e = clash-of (sym e)
after-white measure_number e = clash-of (sym e)
after-white units e = clash-of (sym e)
after-white units_number e = clash-of (sym e)
after-white begin e = clash-of (sym e)
after-white end e = clash-of (sym e)
after-white (past {x = x} h) e = let z : 29 ≤ suc x = omega arith in past z

after_tag : {x : ℕ} → Spot x → between 0x41 0xbf (get_or J x 0) ≡ true → Spot (suc x)
after_tag measure e = clash-of (sym e)
after_tag measure_number e = clash-of (sym e)
after_tag units e = clash-of (sym e)
after_tag units_number e = clash-of (sym e)
after_tag begin e = end
after_tag end e = let z : 29 ≤ 29 = omega arith in past z
after_tag (past {x = x} h) e = clash-of (sym e ∙ ap (between 0x41 0xbf) (past-zero J x h))

after-number : {x : ℕ} → Spot x → is_number (get_or J x 0) ≡ true → Spot (x + 1 + leads (get_or J x 0))
after-number measure e = clash-of (sym e)
after-number measure_number e = units
after-number units e = clash-of (sym e)
after-number units_number e = begin
after-number begin e = clash-of (sym e)
after-number end e = clash-of (sym e)
after-number (past {x = x} h) e = clash-of (sym e ∙ ap is_number (past-zero J x h))

no-data : {x : ℕ} → Spot x → is_data (get_or J x 0) ≡ false
no-data measure = refl
no-data measure_number = refl
no-data units = refl
no-data units_number = refl
no-data begin = refl
no-data end = refl
no-data (past {x = x} h) = ap is_data (past-zero J x h)

spots : {x : ℕ} → ItemFrom false J 16 x → Spot x
spots first = measure
spots (behind_white i e) = after-white (spots i) e
spots (behind_tag i e) = after_tag (spots i) e
spots (behind_value i e) = after-value (spots i) e
spots (behind_number i e) = after-number (spots i) e
spots (behind_data i e) = clash-of (sym e ∙ no-data (spots i))

-- an item that has no value
no_value : (x : ℕ) → Spot x → get_or J x 0 ≡ get_or K x 0 → is_value (value_at false J x 0) ≡ false → value_at false J x 0 ≡ value_at true K x 0 → led_by false J x ≡ led_by true K x
    → SameItem false true J K x
no_value x p b n v l =
    record {
      tag = b;
      extent = v;
      numbers = λ c f m e. clash-of (sym (ap is_value e) ∙ n);
      row = λ c f m e. clash-of (sym (ap is_value e) ∙ n);
      led = l;
      block = λ e. clash-of (sym e ∙ no-data p);
    }

two-words : (i : ℕ) → i < 2 → number false 2 J (21 + i * 2) ≡ number true 2 K (21 + i * 2)
unfolding number digits
two-words zero h = refl
two-words (suc zero) h = refl
two-words (suc (suc i)) h = absurd (omega arith)

same-items : (x : ℕ) → Spot x → SameItem false true J K x
unfolding value_of kind_of width_of numbers_at number digits
same-items x measure =
    record {
      tag = refl;
      extent = refl;
      numbers = λ c f m e n w g i l.
          let a = ap first_in e in let b = ap wide_of g in let d = ap many_of g in
          let z : 0 ≡ i = omega arith in
          rw (sym a, sym b, sym z) refl;
      row = λ c f m e g. absurd (let z : 0xc0 ≡ 0xc8 = g in omega arith);
      led = refl;
      block = λ e. clash-of (sym e);
    }
same-items x measure_number = no_value 18 measure_number refl refl refl refl
same-items x units =
    record {
      tag = refl;
      extent = refl;
      numbers = λ c f m e n w g i l.
          let a = ap first_in e in let b = ap wide_of g in let d = ap many_of g in
          rw (sym a, sym b) (two-words i (let z : i < 2 = omega arith in z));
      row = λ c f m e g. absurd (let z : 0xd1 ≡ 0xc8 = g in omega arith);
      led = refl;
      block = λ e. clash-of (sym e);
    }
same-items x units_number = no_value 25 units_number refl refl refl refl
same-items x begin = no_value 27 begin refl refl refl refl
same-items x end = no_value 28 end refl refl refl refl
same-items x (past h) =
    let a = past-zero J x h in
    let b = past-zero K x h in
    no_value x (past h) (a ∙ sym b) (ap is_value (past_value false J x 0 h)) (past_value false J x 0 h ∙ sym (past_value true K x 0 h)) (rw (a, b) refl)

-- so they get the same verdict, and list the same
headers : (header_of J ≡ Header.is one false 16) × (header_of K ≡ Header.is one true 16)
unfolding header_of may_stand form_from classed
headers = (refl, refl)

pub either_order : SameOutcome (outcome_of false every J 16384 65536) (outcome_of false every K 16384 65536)
either_order =
    byte_order low up J K 16384 65536 16 (omega arith) (omega arith) refl refl refl headers.0 headers.1 (λ at i. same-items at (spots i))
