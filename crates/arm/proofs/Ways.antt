-- A row walked from any page does what its two ways, from a set cursor and gray and from no cursor and RGB, say of it.
use Prim.Native.Nat.{ℕ, zero, suc, ◌+◌, ◌<◌, ◌≤◌, max}
use native.Mathlib.Omega.{arith}
use mathlib.Core.Path.{◌≡◌, refl, sym, ap, ap₂, ◌∙◌}
use mathlib.Core.Bool.{Bool, true, false, not, ◌&&◌, ◌||◌, or_assoc}
use mathlib.Core.List.{List, [], ◌∷◌, ◌++◌}
use lib.ListN.{length, length-append}
use Rattle.scope.specs.Choice.{pick}
use Rattle.scope.specs.Arm.{Saved, Page, Mark, kept, to, marked, restored, done, Effect, push, pop, put, Select, no_pattern, pattern, clash, risen, wanted, Act, Seen, step, Stroke, walk, from}
use Rattle.summary.specs.Balance.{may_do, depth_after, Level, Balanced}
use Rattle.summary.specs.Sums.{fresh}
use Rattle.page.proofs.Pages.{page-eq, within-done}

seen-eq : {u v : Seen} → u.page ≡ v.page → u.count ≡ v.count → u.most ≡ v.most → u.source ≡ v.source → u.lost ≡ v.lost → u.wrong ≡ v.wrong → u.wants ≡ v.wants → u ≡ v
seen-eq a b c d e f g i = record { page = a i; count = b i; most = c i; source = d i; lost = e i; wrong = f i; wants = g i }

-- a number of saved states, put on top of l others; none stays none
abbrev pub rise : ℕ → ℕ → ℕ
rise l zero = zero
rise l (suc m) = suc m + l

abbrev pub zipped : Bool → Bool → List Saved → List Saved → List Saved
zipped c g [] ys = []
zipped c g (x ∷ xs) [] = []
zipped c g (x ∷ xs) (y ∷ ys) = record { cursor = pick c x.cursor y.cursor; gray = pick g x.gray y.gray } ∷ zipped c g xs ys

-- the page that a row comes to from p, where it comes to a from the one start and to b from the other
unfoldable pub mixed : Page → Page → Page → Page
mixed a b p =
    record {
      cursor = pick p.cursor a.cursor b.cursor;
      gray = pick p.gray a.gray b.gray;
      saved = zipped p.cursor p.gray a.saved b.saved ++ p.saved;
    }

-- the same of the arm
unfoldable pub inst : Seen → Seen → Seen → Seen
inst a b w =
    record {
      page = mixed a.page b.page w.page;
      count = w.count + a.count;
      most = max w.most (rise (length w.page.saved) a.most);
      source = w.source || a.source;
      lost = w.lost || pick w.page.cursor a.lost b.lost;
      wrong = w.wrong || pick w.page.gray a.wrong b.wrong;
      wants = a.wants ++ w.wants;
    }

-- the two rows of saved states are of one length
abbrev pub Same : List Saved → List Saved → Type 0
Same [] [] = Unit
Same [] (y ∷ ys) = ⊥
Same (x ∷ xs) [] = ⊥
Same (x ∷ xs) (y ∷ ys) = Same xs ys

seen_more : (F : Bool → Bool) (l c l1 l2 p q : Bool) → ((l || pick c l1 l2) || F (pick c p q)) ≡ (l || pick c (l1 || F p) (l2 || F q))
seen_more F true c l1 l2 p q = refl
seen_more F false true l1 l2 p q = refl
seen_more F false false l1 l2 p q = refl

rise-pos : (l n : ℕ) → 0 < n → rise l n ≡ n + l
rise-pos l zero h = omega arith
rise-pos l (suc n) h = refl

rise-max : (l m d : ℕ) → max (rise l m) (suc d + l) ≡ rise l (max m (suc d))
rise-max l zero d = rw (rise-pos l (max 0 (suc d)) (omega arith)) (omega arith)
rise-max l (suc m) d = rw (rise-pos l (max (suc m) (suc d)) (omega arith)) (omega arith)

zipped-length : (c g : Bool) (xs ys : List Saved) → Same xs ys → length (zipped c g xs ys) ≡ length xs
zipped-length c g [] [] s = refl
zipped-length c g [] (y ∷ ys) s = absurd s
zipped-length c g (x ∷ xs) [] s = absurd s
zipped-length c g (x ∷ xs) (y ∷ ys) s = ap suc (zipped-length c g xs ys s)

marked-pick : (m : Mark) (c x y : Bool) → marked m (pick c x y) ≡ pick c (marked m x) (marked m y)
marked-pick kept c x y = refl
marked-pick (to b) true x y = refl
marked-pick (to b) false x y = refl

mixed-restored : (sa sb : List Saved) (a b p : Page) → Same sa sb → may_do pop (length sa)
    → restored (zipped p.cursor p.gray sa sb ++ p.saved) (mixed a b p) ≡ mixed (restored sa a) (restored sb b) p
unfolding mixed
mixed-restored [] sb a b p s m = absurd m
mixed-restored (x ∷ xs) [] a b p s m = absurd s
mixed-restored (x ∷ xs) (y ∷ ys) a b p s m = refl

mixed-done : (e : Effect) (a b p : Page) → Same a.saved b.saved → may_do e (length a.saved) → done e (mixed a b p) ≡ mixed (done e a) (done e b) p
unfolding mixed done
mixed-done push a b p s m = refl
mixed-done pop a b p s m = mixed-restored a.saved b.saved a b p s m
mixed-done (put c g) a b p s m = page-eq (marked-pick c p.cursor a.cursor b.cursor) (marked-pick g p.gray a.gray b.gray) refl

most-push : (wm l am da n : ℕ) → n ≡ da + l → max (max wm (rise l am)) (suc n) ≡ max wm (rise l (max am (suc da)))
most-push wm l am da n e = rw (← rise-max l am da) (omega arith)

mixed-risen : (e : Effect) (a b p : Page) (wm am : ℕ) → Same a.saved b.saved
    → risen e (mixed a b p) (max wm (rise (length p.saved) am)) ≡ max wm (rise (length p.saved) (risen e a am))
unfolding mixed risen
mixed-risen push a b p wm am s =
    most-push wm (length p.saved) am (length a.saved) _
    (length-append (zipped p.cursor p.gray a.saved b.saved) p.saved
    ∙ ap (λ (n : ℕ). n + length p.saved) (zipped-length p.cursor p.gray a.saved b.saved s))
mixed-risen pop a b p wm am s = refl
mixed-risen (put c g) a b p wm am s = refl

-- one number more behind those selected before
wanted-append : (s : Select) (ns ms : List ℕ) → wanted s (ns ++ ms) ≡ wanted s ns ++ ms
wanted-append no_pattern ns ms = refl
wanted-append (pattern n) ns ms = refl

inst-step : (x : Act) (a b w : Seen) → Same a.page.saved b.page.saved → may_do x.effect (length a.page.saved)
    → step x (inst a b w) ≡ inst (step x a) (step x b) w
unfolding step inst
inst-step x a b w s m =
    seen-eq (mixed-done x.effect a.page b.page w.page s m) (omega arith)
    (mixed-risen x.effect a.page b.page w.page w.most a.most s)
    (or_assoc w.source a.source x.source)
    (unfold mixed in seen_more (λ (c : Bool). x.cursor && not c) w.lost w.page.cursor a.lost b.lost a.page.cursor b.page.cursor)
    (unfold mixed in seen_more (λ (g : Bool). clash x.space g) w.wrong w.page.gray a.wrong b.wrong a.page.gray b.page.gray)
    (wanted-append x.select a.wants w.wants)

same-restored : (sa sb : List Saved) (a b : Page) → Same sa sb → Same a.saved b.saved → Same (restored sa a).saved (restored sb b).saved
same-restored [] [] a b s t = t
same-restored [] (y ∷ ys) a b s t = absurd s
same-restored (x ∷ xs) [] a b s t = absurd s
same-restored (x ∷ xs) (y ∷ ys) a b s t = s

same-done : (e : Effect) (a b : Page) → Same a.saved b.saved → Same (done e a).saved (done e b).saved
unfolding done
same-done push a b s = s
same-done pop a b s = same-restored a.saved b.saved a b s s
same-done (put c g) a b s = s

length-restored : (sa : List Saved) (a : Page) → may_do pop (length sa) → length (restored sa a).saved ≡ depth_after pop (length sa)
length-restored [] a m = absurd m
length-restored (x ∷ xs) a m = refl

pub length-done : (e : Effect) (a : Page) → may_do e (length a.saved) → length (done e a).saved ≡ depth_after e (length a.saved)
unfolding done
length-done push a m = refl
length-done pop a m = length-restored a.saved a m
length-done (put c g) a m = refl

-- walking a row from what a and b say of w is what walking it from a and from b says of w
inst-walk : (l : List Stroke) (a b w : Seen) (e : ℕ) → Same a.page.saved b.page.saved → Level (length a.page.saved) l e
    → walk l (inst a b w) ≡ inst (walk l a) (walk l b) w
unfolding walk Level step
inst-walk [] a b w e s m = refl
inst-walk (x ∷ l) a b w e s m =
    ap (walk l) (inst-step x.act a b w s m.0)
    ∙ inst-walk l (step x.act a) (step x.act b) w e (same-done x.act.effect a.page b.page s)
    (rw (length-done x.act.effect a.page m.0) m.1)

pub or_false : (b : Bool) → (b || false) ≡ b
or_false true = refl
or_false false = refl

pick_id : (c : Bool) → pick c true false ≡ c
pick_id true = refl
pick_id false = refl

pick-false : (c : Bool) → pick c false false ≡ false
pick-false true = refl
pick-false false = refl

inst-fresh : (w : Seen) → inst (fresh true) (fresh false) w ≡ w
unfolding inst mixed fresh from
inst-fresh w =
    seen-eq (page-eq (pick_id w.page.cursor) (pick_id w.page.gray) refl) (omega arith) (omega arith) (or_false w.source)
    (rw (pick-false w.page.cursor) (or_false w.lost)) (rw (pick-false w.page.gray) (or_false w.wrong)) refl

-- THE SUMMARY IS RIGHT: a balanced row, from any page
pub walk-both : (l : List Stroke) (w : Seen) → Balanced l → walk l w ≡ inst (walk l (fresh true)) (walk l (fresh false)) w
unfolding Balanced
walk-both l w m = ap (walk l) (sym (inst-fresh w)) ∙ inst-walk l (fresh true) (fresh false) w 0 (unfold fresh from in tt) (unfold fresh from in m)

none-saved : (ss : List Saved) → length ss ≡ 0 → ss ≡ []
none-saved [] e = refl
none-saved (s ∷ ss) e = absurd (omega arith)

-- so many are saved after the row
pub level-saved : (l : List Stroke) (w : Seen) (e : ℕ) → Level (length w.page.saved) l e → length (walk l w).page.saved ≡ e
unfolding walk Level step
level-saved [] w e m = m
level-saved (x ∷ l) w e m = level-saved l (step x.act w) e (rw (length-done x.act.effect w.page m.0) m.1)

pub fresh-saved : (l : List Stroke) (b : Bool) → Balanced l → (walk l (fresh b)).page.saved ≡ []
unfolding Balanced
fresh-saved l b m = none-saved (walk l (fresh b)).page.saved (level-saved l (fresh b) 0 (unfold fresh from in m))

pub none-zipped : (c g : Bool) (xs ys zs : List Saved) → xs ≡ [] → zipped c g xs ys ++ zs ≡ zs
none-zipped c g xs ys zs e = rw e refl

-- a balanced row leaves what is saved as it was
pub balanced-saved : (l : List Stroke) (w : Seen) → Balanced l → (walk l w).page.saved ≡ w.page.saved
balanced-saved l w m =
    ap (λ (v : Seen). v.page.saved) (walk-both l w m)
    ∙ unfold inst mixed in none-zipped w.page.cursor w.page.gray (walk l (fresh true)).page.saved (walk l (fresh false)).page.saved w.page.saved
    (fresh-saved l true m)

same_length : (xs ys : List Saved) → Same xs ys → length xs ≡ length ys
same_length [] [] s = refl
same_length [] (y ∷ ys) s = absurd s
same_length (x ∷ xs) [] s = absurd s
same_length (x ∷ xs) (y ∷ ys) s = ap suc (same_length xs ys s)

level-risen : (e : Effect) (a b : Page) (m n : ℕ) → Same a.saved b.saved → m ≡ n → risen e a m ≡ risen e b n
unfolding risen
level-risen push a b m n s p = ap₂ (λ (x y : ℕ). max x (suc y)) p (same_length a.saved b.saved s)
level-risen pop a b m n s p = p
level-risen (put c g) a b m n s p = p

same-most : (l : List Stroke) (a b : Seen) → Same a.page.saved b.page.saved → a.most ≡ b.most → (walk l a).most ≡ (walk l b).most
unfolding walk step
same-most [] a b s m = m
same-most (x ∷ l) a b s m =
    same-most l (step x.act a) (step x.act b) (same-done x.act.effect a.page b.page s)
    (level-risen x.act.effect a.page b.page a.most b.most s m)

-- both ways save the same number of states
pub fresh-most : (l : List Stroke) → (walk l (fresh false)).most ≡ (walk l (fresh true)).most
unfolding fresh from
fresh-most l = same-most l (fresh false) (fresh true) tt refl

-- what the arm saves beyond what was saved at first, it has noted
pub within : (l : List Stroke) (w : Seen) (k : ℕ) → length w.page.saved ≤ max k w.most → length (walk l w).page.saved ≤ max k (walk l w).most
unfolding walk step
within [] w k h = h
within (x ∷ l) w k h = within l (step x.act w) k (within-done x.act.effect w.page k w.most h)
