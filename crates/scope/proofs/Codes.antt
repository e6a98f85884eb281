-- Every refusal has a code, a motif's too; and what the rules of 17, 23 to 26 and 28 add to the others.
-- Assumes nothing.
use Prim.Native.Nat.{ℕ, ◌-◌, ◌*◌, ◌≤◌}
use mathlib.Core.Path.{◌≡◌, refl, sym, ap, ◌∙◌, subst, subst⁻¹}
use mathlib.Core.Bool.{Bool, true, false, ◌&&◌}
use mathlib.Core.List.{List, [], ◌∷◌, ◌++◌}
use borrow.Author.Tests.{ltb-false, le-ltb}
use lib.ListN.{length, get_or}
use lib.Dec.{T, eqb}
use Rattle.scope.specs.Choice.{pick, among}
use Rattle.scope.specs.Header.{Class, Header, Form, ends, breaks, header_of, classed, form_from}
use Rattle.scope.specs.Setting.{Setting, of_motif, same_class}
use Rattle.scope.specs.Reading.{Read}
use Rattle.scope.specs.Motif.{Own, Inside, Picture, Judged, valid, faulty, context_in, on_end, on_read, motif_step, judged_inside, motif_from, motif_of}
use Rattle.scope.specs.Calls.{nothing}
use Rattle.scope.specs.Session.{Session, Place, outside, inside, page_patterns}
use Rattle.scope.specs.Judge.{State, end_at, Case, Rule, rule, motifs_own, Refusal, early, armed, limits, rules, first_broken, own_or, outer, judged_at, too_much, no_place, name_missing, calls_itself, too_deep, source_closed, saved_over, cursor_unset, space_wrong, pattern_missing, count_over, room_over}
use Rattle.scope.specs.Verdict.{every, layout}
use Rattle.scope.specs.Claims.{BreaksNone}
use Rattle.scope.proofs.Ends.{pick_all, Kept, kept_go, kept_stop, iterate-holds, given-here, Coded, GoodRead, read-good}
use Rattle.scope.proofs.Apart.{clash-of}
use Rattle.scope.proofs.Broken.{or_else, first-none, second_none, first-append, breaks-none}
use Rattle.scope.proofs.Rows.{Around, Clean}

pub data GoodJudged : Judged → Type 0 where
  good : {ops : List Own} → GoodJudged (valid ops)
  ill : {code inner : ℕ} → Coded code → GoodJudged (faulty code inner)

pub data GoodHeader : Header → Type 0 where
  good : {class : Class} {high : Bool} {next : ℕ} → GoodHeader (Header.is class high next)
  ill : {code place : ℕ} → Coded code → GoodHeader (Header.no code place)

classed-good : (s : List ℕ) (f : Form) → GoodHeader (classed s f)
unfolding classed
classed-good s (breaks i) = ill tt
classed-good s (ends n) = pick_all GoodHeader (eqb (get_or s 12 0) 0x31 && eqb (get_or s 14 0) 0x31) (λ _. good)
    (λ _. pick_all GoodHeader (eqb (get_or s 12 0) 0x32 && eqb (get_or s 14 0) 0x31) (λ _. good) (λ _. ill tt))

pub header-good : (s : List ℕ) → GoodHeader (header_of s)
unfolding header_of
header-good s = pick_all GoodHeader (eqb (get_or s 0 0) 0x27) (λ _. ill tt) (λ _. classed-good s (form_from 0 s))

abbrev Any : Inside → Type 0
Any w = Unit {0}

module _ (set : Setting) (s : List ℕ) where
  end-good : (w : Inside) (p : Picture) → GoodJudged (on_end s w p)
  unfolding on_end
  end-good w (Picture.being i) = ill tt
  end-good w (Picture.hatching h i) = ill tt
  end-good w Picture.none = pick_all GoodJudged (eqb w.saved 0) (λ _. good) (λ _. ill tt)

  on-read_good : (w : Inside) {at len : ℕ} {may : ℕ → Bool} {r : Read} → GoodRead len at may r → Kept Any GoodJudged (on_read set s w r)
  unfolding on_read
  on-read_good w (GoodRead.operator h k m) = kept_go tt
  on-read_good w GoodRead.ended = kept_stop (end-good w w.picture)
  on-read_good w (GoodRead.no k) = kept_stop (ill k)

  step-good : (w : Inside) → Any w → Kept Any GoodJudged (motif_step set s w)
  unfolding motif_step
  step-good w u = on-read_good w (read-good (context_in set w) s w.at)

from-good : (set : Setting) (s : List ℕ) {r : Header} → GoodHeader r → GoodJudged (motif_from set s r)
unfolding motif_from judged_inside
from-good set s (good {class = class} {high = high} {next = next}) =
    pick_all GoodJudged (same_class class set.class)
    (λ _. iterate-holds (motif_step (of_motif set high) s) (faulty 5 0) Any GoodJudged (ill tt) (step-good (of_motif set high) s) (λ w. length s - w.at)
    (record { at = next; saved = 0; picture = Picture.none; ops = [] }) tt) (λ _. ill tt)
from-good set s (ill k) = ill k

pub motif-good : (set : Setting) (s : List ℕ) → GoodJudged (motif_of set s)
unfolding motif_of
motif-good set s = from-good set s (header-good s)

pub judged-good : (set : Setting) (joined : List ℕ) (tag : ℕ) → GoodJudged (judged_at set joined tag)
unfolding judged_at
judged-good set joined tag = pick_all GoodJudged (eqb tag 0x5d) (λ _. motif-good set joined) (λ _. good)

pub data Refuses : Refusal → Type 0 where
  not_so : Refuses Refusal.none
  so : {code inner : ℕ} → Coded code → Refuses (Refusal.refused code inner)

own-refuses : {j : Judged} → GoodJudged j → {r : Refusal} → Refuses r → Refuses (own_or j r)
own-refuses good h = h
own-refuses (ill k) h = so k

-- the codes of some rules are among those that are given
unfoldable all_coded : List Rule → Bool
all_coded [] = true
all_coded (rule k broken ∷ rs) = elim (given-here k) [ true ↦ all_coded rs | false ↦ false ]
all_coded (motifs_own ∷ rs) = all_coded rs

first-coded : (given : ℕ → Bool) (c : Case) → GoodJudged c.made → (rs : List Rule) → all_coded rs ≡ true → Refuses (first_broken given c rs)
unfolding first_broken all_coded
first-coded given c g [] e = not_so
first-coded given c g (rule k broken ∷ rs) e = by (given-here k) refl e (first-coded given c g rs)
  where
    by : (b : Bool) → given-here k ≡ b → elim b [ true ↦ all_coded rs | false ↦ false ] ≡ true → (all_coded rs ≡ true → Refuses (first_broken given c rs))
        → Refuses (pick (given k && broken c) (Refusal.refused k outer) (first_broken given c rs))
    by true f h ih = pick_all Refuses (given k && broken c) (λ _. so (subst⁻¹ T f tt)) (λ _. ih h)
    by false f h ih = clash-of (sym h)
first-coded given c g (motifs_own ∷ rs) e = own-refuses g (first-coded given c g rs e)

-- every refusal by a rule has a code
pub broken-coded : (given : ℕ → Bool) (room : ℕ) (c : Case) → GoodJudged c.made → Refuses (first_broken given c (rules room))
unfolding rules early armed limits all_coded
broken-coded given room c g = first-coded given c g (rules room) refl

-- a code that is given here is no pass
pub not-coded : {A : Type 0} (k : ℕ) → Coded k → k ≡ 0 → A
not-coded k c e = absurd (subst Coded e c)

-- the end of a job leaves the state as it is
pub end-state : (s : List ℕ) (st : State) (p : Place) → (end_at s st p).state ≡ st
unfolding end_at
end-state s st (outside true) = refl
end-state s st (outside false) = refl
end-state s st (inside x) = refl

-- the rules of the state and of the room
unfoldable pub state_code : ℕ → Case → Refusal
state_code room c = first_broken every c (armed ++ limits room)

-- the rules of motifs and their names are layout rules
early-layout : (c : Case) → first_broken layout c early ≡ first_broken every c early
unfolding first_broken early layout among
early-layout c = refl

-- and all others are not
others-none : (c : Case) → first_broken layout c (armed ++ limits 0) ≡ Refusal.none
unfolding first_broken armed limits layout among
others-none c = refl

early-none : (c : Case) → first_broken layout c (rules 0) ≡ Refusal.none → first_broken every c early ≡ Refusal.none
unfolding rules
early-none c e = sym (early-layout c) ∙ first-none (first_broken layout c early) _ (sym (first-append layout c early (armed ++ limits 0)) ∙ e)

-- where no layout rule is broken, the rules of the state and of the room decide
pub layout-none : (room : ℕ) (c : Case) → first_broken layout c (rules 0) ≡ Refusal.none → first_broken every c (rules room) ≡ state_code room c
unfolding rules state_code
layout-none room c e = first-append every c early (armed ++ limits room) ∙ ap (λ r. or_else r (state_code room c)) (early-none c e)

-- where no rule is broken, no layout rule is, and there is room
pub none-layout : (room : ℕ) (c : Case) → first_broken every c (rules room) ≡ Refusal.none → first_broken layout c (rules 0) ≡ Refusal.none
unfolding rules
none-layout room c e =
    let f = first-none (first_broken every c early) _ (sym (first-append every c early (armed ++ limits room)) ∙ e) in
    first-append layout c early (armed ++ limits 0) ∙ ap (λ r. or_else r (first_broken layout c (armed ++ limits 0))) (early-layout c ∙ f) ∙ others-none c

-- what an operator keeps to that breaks no layout rule: there is room for its motif and a place for its pattern, no motif is faulty, and its call meets nothing
pub data Valid : Judged → Type 0 where
  fine : {ops : List Own} → Valid (valid ops)

pub record Laid (c : Case) : Type 0 where
  pub fits : too_much c ≡ false
  pub spare : no_place c ≡ false
  pub made : Valid c.made
  pub met : c.met ≡ nothing

pub early-laid : (c : Case) → BreaksNone c early → Laid c
unfolding early name_missing calls_itself too_deep
early-laid c (BreaksNone.kept a (BreaksNone.kept b (BreaksNone.sound v (BreaksNone.kept m (BreaksNone.kept r (BreaksNone.kept d BreaksNone.none)))))) =
    record { fits = a; spare = b; made = subst⁻¹ Valid v fine; met = λ i. record { missing = m i; again = r i; deep = d i } }

pub laid : (c : Case) → first_broken layout c (rules 0) ≡ Refusal.none → Laid c
laid c e = early-laid c (breaks-none c early (early-none c e))

fits-of : (room : ℕ) (c : Case) → BreaksNone c (limits room) → c.records * 16 ≤ room
unfolding limits room_over
fits-of room c (BreaksNone.kept a (BreaksNone.kept b BreaksNone.none)) = ltb-false room (c.records * 16) b

pub none-fits : (room : ℕ) (c : Case) → first_broken every c (rules room) ≡ Refusal.none → c.records * 16 ≤ room
unfolding state_code
none-fits room c e =
    let k = sym (layout-none room c (none-layout room c e)) ∙ e in
    fits-of room c (breaks-none c (limits room) (second_none (first_broken every c armed) _ (sym (first-append every c armed (limits room)) ∙ k)))

-- what is around the operators that are performed for an operator of a session
abbrev pub around : Session → Around
around x = record { opened = x.opened; of_page = page_patterns x.busy; of_session = x.patterns }

pub clean_none : (room : ℕ) (c : Case) → Clean (around c.session) c.seen → c.records * 16 ≤ room → state_code room c ≡ Refusal.none
unfolding state_code first_broken armed limits source_closed saved_over cursor_unset space_wrong pattern_missing count_over room_over
clean_none room c h r =
    rw (h.source, le-ltb 24 c.seen.most h.most, h.lost, h.wrong, h.there, le-ltb 1_000_000 c.seen.count h.count, le-ltb room (c.records * 16) r)

clean_of : (room : ℕ) (c : Case) → BreaksNone c (armed ++ limits room) → Clean (around c.session) c.seen
unfolding armed limits source_closed saved_over cursor_unset space_wrong pattern_missing count_over
clean_of room c (BreaksNone.kept a (BreaksNone.kept b (BreaksNone.kept d (BreaksNone.kept f (BreaksNone.kept n (BreaksNone.kept g r)))))) =
    record { source = a; most = ltb-false 24 c.seen.most b; lost = d; wrong = f; there = n; count = ltb-false 1_000_000 c.seen.count g }

pub none-clean : (room : ℕ) (c : Case) → state_code room c ≡ Refusal.none → Clean (around c.session) c.seen
unfolding state_code
none-clean room c e = clean_of room c (breaks-none c (armed ++ limits room) e)
