-- The walk with its cuts, over names, held or not, that call names: what nests within is walked without a cut, and a walk without a cut is of what nests within; a
-- name not held is met exactly if it is reached.
-- Assumes nothing.
use Prim.Native.Nat.{ℕ, zero, suc, ◌-◌, ◌≤◌}
use mathlib.Core.Path.{◌≡◌, refl, sym, ap, ◌∙◌}
use mathlib.Core.Bool.{Bool, true, false, not, ◌||◌}
use mathlib.Core.List.{List, [], ◌∷◌}
use native.Mathlib.Omega.{arith}
use Rattle.scope.specs.Choice.{pick, same}
use Rattle.scope.specs.Calls.{is_one, Met, nothing, both}
use Rattle.scope.specs.Reach.{Name, all, any, fits, lost}
use Rattle.scope.proofs.Apart.{clash-of, same-eq}
use Rattle.scope.proofs.Bare.{both-nothing}

pub clash : {A : Type 0} → ◌≡◌ {A = Bool} false true → A
clash e = clash-of (sym e)

unfoldable pub met_all : (Name → Met) → List Name → Met
met_all f [] = nothing
met_all f (j ∷ js) = both (f j) (met_all f js)

-- the walk from a call of i where these are running and d more may
unfoldable pub walked : (Name → Bool) → (Name → List Name) → ℕ → List Name → Name → Met
walked held calls zero run i =
    pick (held i) (pick (is_one i run) (record { missing = false; again = true; deep = false }) (record { missing = false; again = false; deep = true }))
    (record { missing = true; again = false; deep = false })
walked held calls (suc d) run i =
    pick (held i) (pick (is_one i run) (record { missing = false; again = true; deep = false }) (met_all (walked held calls d (i ∷ run)) (calls i)))
    (record { missing = true; again = false; deep = false })

-- no running motif has f
unfoldable pub Without : (Name → Bool) → List Name → Type 0
Without f [] = Unit
Without f (r ∷ rs) = (f r ≡ false) × Without f rs

not-here : (f : Name → Bool) (i r : Name) (m : Bool) → f r ≡ false → f i ≡ true → m ≡ false → (b : Bool) → same i r ≡ b → pick b true m ≡ false
not-here f i r m a e h true t = clash (sym a ∙ ap f (sym (same-eq i r t)) ∙ e)
not-here f i r m a e h false t = h

without_not : (f : Name → Bool) (i : Name) (run : List Name) → Without f run → f i ≡ true → is_one i run ≡ false
unfolding Without is_one
without_not f i [] w e = refl
without_not f i (r ∷ rs) (a, w) e = not-here f i r (is_one i rs) a e (without_not f i rs w e) (same i r) refl

without_map : (f g : Name → Bool) → ((i : Name) → f i ≡ false → g i ≡ false) → (run : List Name) → Without f run → Without g run
unfolding Without
without_map f g h [] w = tt
without_map f g h (r ∷ rs) (a, w) = (h r a, without_map f g h rs w)

both_of : (a b : Met) → a ≡ nothing → b ≡ nothing → both a b ≡ nothing
both_of a b e f = rw (e, f) refl

pub pick_true : (b c : Bool) → pick b c false ≡ true → (b ≡ true) × (c ≡ true)
pick_true true c e = (refl, e)
pick_true false c e = clash e

module _ (held : Name → Bool) (calls : Name → List Name) where
  -- a motif that nests within d nests within more
  all-mono : (f g : Name → Bool) → ((i : Name) → f i ≡ true → g i ≡ true) → (l : List Name) → all f l ≡ true → all g l ≡ true
  unfolding all
  all-mono f g h [] e = refl
  all-mono f g h (j ∷ js) e = let p = pick_true (f j) (all f js) e in rw (h j p.0) (all-mono f g h js p.1)

  pub fits_more : (d : ℕ) (i : Name) → fits held calls d i ≡ true → fits held calls (suc d) i ≡ true
  unfolding fits
  fits_more zero i e = clash e
  fits_more (suc d) i e =
      let p = pick_true (held i) (all (fits held calls d) (calls i)) e in
      rw p.0 (all-mono (fits held calls d) (fits held calls (suc d)) (fits_more d) (calls i) p.1)

  fits-less : (d : ℕ) (i : Name) → fits held calls (suc d) i ≡ false → fits held calls d i ≡ false
  fits-less d i e = go (fits held calls d i) refl
    where
      go : (b : Bool) → fits held calls d i ≡ b → b ≡ false
      go true t = clash (sym e ∙ fits_more d i t)
      go false t = refl

  all_nothing : (f : Name → Bool) (g : Name → Met) → ((j : Name) → f j ≡ true → g j ≡ nothing) → (l : List Name) → all f l ≡ true → met_all g l ≡ nothing
  unfolding all met_all
  all_nothing f g h [] e = refl
  all_nothing f g h (j ∷ js) e = let p = pick_true (f j) (all f js) e in both_of (g j) (met_all g js) (h j p.0) (all_nothing f g h js p.1)

  -- what nests within k, where no running motif does, is walked without a cut
  quiet_at : (k d : ℕ) (run : List Name) (i : Name) → (b : Bool) → fits held calls k i ≡ b → (b ≡ true → walked held calls (suc d) run i ≡ nothing)
      → fits held calls (suc k) i ≡ true → Without (fits held calls (suc k)) run
      → ((j : Name) → fits held calls k j ≡ true → Without (fits held calls k) (i ∷ run) → walked held calls d (i ∷ run) j ≡ nothing) → walked held calls (suc d) run i ≡ nothing
  unfolding fits walked Without
  quiet_at k d run i true e early f w ih = early refl
  quiet_at k d run i false e early f w ih =
      let p = pick_true (held i) (all (fits held calls k) (calls i)) f in
      let v : Without (fits held calls k) (i ∷ run) = (e, without_map (fits held calls (suc k)) (fits held calls k) (fits-less k) run w) in
      rw (p.0, without_not (fits held calls (suc k)) i run w f) (all_nothing (fits held calls k) (walked held calls d (i ∷ run)) (λ j g. ih j g v) (calls i) p.1)

  pub quiet : (k d : ℕ) (run : List Name) (i : Name) → k ≤ d → fits held calls k i ≡ true → Without (fits held calls k) run → walked held calls d run i ≡ nothing
  unfolding fits
  quiet zero d run i l f w = clash f
  quiet (suc k) zero run i l f w = absurd (omega arith)
  quiet (suc k) (suc d) run i l f w =
      let m : k ≤ d = omega arith in
      let n : k ≤ suc d = omega arith in
      quiet_at k d run i (fits held calls k i) refl (λ t. quiet k (suc d) run i n t (without_map (fits held calls (suc k)) (fits held calls k) (fits-less k) run w)) f w
      (λ j g v. quiet k d (i ∷ run) j m g v)

  -- a walk that meets nothing is of a motif that nests within
  nothing-all : (f : Name → Bool) (g : Name → Met) → ((j : Name) → g j ≡ nothing → f j ≡ true) → (l : List Name) → met_all g l ≡ nothing → all f l ≡ true
  unfolding all met_all
  nothing-all f g h [] e = refl
  nothing-all f g h (j ∷ js) e = let p = both-nothing (g j) (met_all g js) e in rw (h j p.0) (nothing-all f g h js p.1)

  cut : (h m : Bool) (x : Met) (b : Bool) → pick h (pick m (record { missing = false; again = true; deep = false }) x) (record { missing = true; again = false; deep = false }) ≡ nothing
      → (x ≡ nothing → b ≡ true) → pick h b false ≡ true
  cut true true x b e k = clash (sym (ap (λ (m : Met). m.again) e))
  cut true false x b e k = k e
  cut false m x b e k = clash (sym (ap (λ (m : Met). m.missing) e))

  last : (h m : Bool) → pick h (pick m (record { missing = false; again = true; deep = false }) (record { missing = false; again = false; deep = true })) (record { missing = true; again = false; deep = false }) ≡ nothing → false ≡ true
  last true true e = sym (ap (λ (m : Met). m.again) e)
  last true false e = sym (ap (λ (m : Met). m.deep) e)
  last false m e = sym (ap (λ (m : Met). m.missing) e)

  pub nothing-fits : (d : ℕ) (run : List Name) (i : Name) → walked held calls (suc d) run i ≡ nothing → fits held calls (suc d) i ≡ true
  unfolding walked fits
  nothing-fits zero run i e =
      cut (held i) (is_one i run) (met_all (walked held calls zero (i ∷ run)) (calls i)) (all (fits held calls zero) (calls i)) e
      (nothing-all (fits held calls zero) (walked held calls zero (i ∷ run)) (λ j q. clash (last (held j) (is_one j (i ∷ run)) q)) (calls i))
  nothing-fits (suc d) run i e =
      cut (held i) (is_one i run) (met_all (walked held calls (suc d) (i ∷ run)) (calls i)) (all (fits held calls (suc d)) (calls i)) e
      (nothing-all (fits held calls (suc d)) (walked held calls (suc d) (i ∷ run)) (nothing-fits d (i ∷ run)) (calls i))

  pub or_true : (a b : Bool) → b ≡ true → (a || b) ≡ true
  or_true true b e = refl
  or_true false b e = e

  pub pick_some : (a b : Bool) → b ≡ true → pick a true b ≡ true
  pick_some true b e = refl
  pick_some false b e = e

  not-held : (h b : Bool) → not h ≡ true → pick h b true ≡ true
  not-held true b e = clash e
  not-held false b e = refl

  grow : (h a b : Bool) → (a ≡ true → b ≡ true) → pick h a true ≡ true → pick h b true ≡ true
  grow true a b f e = f e
  grow false a b f e = refl

  miss : (h m : Bool) (x : Met) (b : Bool) → (x.missing ≡ true → b ≡ true)
      → (pick {A = Met} h (pick {A = Met} m (record { missing = false; again = true; deep = false }) x) (record { missing = true; again = false; deep = false })).missing ≡ true → pick h b true ≡ true
  miss true true x b f e = clash e
  miss true false x b f e = f e
  miss false m x b f e = refl

  found : (h a : Bool) (x : Met) → pick h a true ≡ true → (a ≡ true → x.missing ≡ true) → (pick {A = Met} h x (record { missing = true; again = false; deep = false })).missing ≡ true
  found true a x e f = f e
  found false a x e f = refl

  none-held : (d : ℕ) (run : List Name) (i : Name) → not (held i) ≡ true → (walked held calls d run i).missing ≡ true
  unfolding walked
  none-held zero run i e = alone (held i) _ e
    where
      alone : (h : Bool) (x : Met) → not h ≡ true → (pick {A = Met} h x (record { missing = true; again = false; deep = false })).missing ≡ true
      alone true x e = clash e
      alone false x e = refl
  none-held (suc d) run i e = alone (held i) _ e
    where
      alone : (h : Bool) (x : Met) → not h ≡ true → (pick {A = Met} h x (record { missing = true; again = false; deep = false })).missing ≡ true
      alone true x e = clash e
      alone false x e = refl

  -- a name that is not held: met by the walk exactly if it is reached by so many calls
  any-missing : (f : Name → Bool) (g : Name → Met) → ((j : Name) → f j ≡ true → (g j).missing ≡ true) → (l : List Name) → any f l ≡ true → (met_all g l).missing ≡ true
  unfolding any met_all
  any-missing f g h [] e = clash e
  any-missing f g h (j ∷ js) e = go (f j) refl e (any-missing f g h js)
    where
      go : (b : Bool) → f j ≡ b → pick b true (any f js) ≡ true → (any f js ≡ true → (met_all g js).missing ≡ true) → ((g j).missing || (met_all g js).missing) ≡ true
      go true t e k = rw (h j t) refl
      go false t e k = or_true (g j).missing (met_all g js).missing (k e)

  missing-any : (f : Name → Bool) (g : Name → Met) → ((j : Name) → (g j).missing ≡ true → f j ≡ true) → (l : List Name) → (met_all g l).missing ≡ true → any f l ≡ true
  unfolding any met_all
  missing-any f g h [] e = clash e
  missing-any f g h (j ∷ js) e = go (g j).missing refl e (missing-any f g h js)
    where
      go : (b : Bool) → (g j).missing ≡ b → (b || (met_all g js).missing) ≡ true → ((met_all g js).missing ≡ true → any f js ≡ true) → pick (f j) true (any f js) ≡ true
      go true t e k = rw (h j t) refl
      go false t e k = pick_some (f j) (any f js) (k e)

  any-mono : (f g : Name → Bool) → ((i : Name) → f i ≡ true → g i ≡ true) → (l : List Name) → any f l ≡ true → any g l ≡ true
  unfolding any
  any-mono f g h [] e = clash e
  any-mono f g h (j ∷ js) e = go (f j) refl e (any-mono f g h js)
    where
      go : (b : Bool) → f j ≡ b → pick b true (any f js) ≡ true → (any f js ≡ true → any g js ≡ true) → pick (g j) true (any g js) ≡ true
      go true t e k = rw (h j t) refl
      go false t e k = pick_some (g j) (any g js) (k e)

  lost-more : (d : ℕ) (i : Name) → lost held calls d i ≡ true → lost held calls (suc d) i ≡ true
  unfolding lost
  lost-more zero i e = not-held (held i) (any (lost held calls zero) (calls i)) e
  lost-more (suc d) i e = grow (held i) (any (lost held calls d) (calls i)) (any (lost held calls (suc d)) (calls i)) (any-mono (lost held calls d) (lost held calls (suc d)) (lost-more d) (calls i)) e

  lost-less : (d : ℕ) (i : Name) → lost held calls (suc d) i ≡ false → lost held calls d i ≡ false
  lost-less d i e = go (lost held calls d i) refl
    where
      go : (b : Bool) → lost held calls d i ≡ b → b ≡ false
      go true t = clash (sym e ∙ lost-more d i t)
      go false t = refl

  pub missing-lost : (d : ℕ) (run : List Name) (i : Name) → (walked held calls d run i).missing ≡ true → lost held calls d i ≡ true
  unfolding walked lost
  missing-lost zero run i e = first (held i) (is_one i run) e
    where
      first : (h m : Bool) → (pick {A = Met} h (pick {A = Met} m (record { missing = false; again = true; deep = false }) (record { missing = false; again = false; deep = true })) (record { missing = true; again = false; deep = false })).missing ≡ true → not h ≡ true
      first true true e = clash e
      first true false e = clash e
      first false m e = refl
  missing-lost (suc d) run i e =
      miss (held i) (is_one i run) (met_all (walked held calls d (i ∷ run)) (calls i)) (any (lost held calls d) (calls i)) (missing-any (lost held calls d) (walked held calls d (i ∷ run)) (missing-lost d (i ∷ run)) (calls i)) e

  lost-at : (k d : ℕ) (run : List Name) (i : Name) (b : Bool) → lost held calls k i ≡ b → (b ≡ true → (walked held calls (suc d) run i).missing ≡ true)
      → lost held calls (suc k) i ≡ true → Without (lost held calls (suc k)) run
      → ((j : Name) → lost held calls k j ≡ true → Without (lost held calls k) (i ∷ run) → (walked held calls d (i ∷ run) j).missing ≡ true) → (walked held calls (suc d) run i).missing ≡ true
  unfolding lost walked Without
  lost-at k d run i true e early f w ih = early refl
  lost-at k d run i false e early f w ih =
      let v : Without (lost held calls k) (i ∷ run) = (e, without_map (lost held calls (suc k)) (lost held calls k) (lost-less k) run w) in
      rw (without_not (lost held calls (suc k)) i run w f) (found (held i) (any (lost held calls k) (calls i)) (met_all (walked held calls d (i ∷ run)) (calls i)) f
      (any-missing (lost held calls k) (walked held calls d (i ∷ run)) (λ j g. ih j g v) (calls i)))

  -- where no running motif loses a name within k calls, one that does is seen to
  pub lost-missing : (k d : ℕ) (run : List Name) (i : Name) → k ≤ d → lost held calls k i ≡ true → Without (lost held calls k) run → (walked held calls d run i).missing ≡ true
  unfolding lost
  lost-missing zero d run i l f w = none-held d run i f
  lost-missing (suc k) zero run i l f w = absurd (omega arith)
  lost-missing (suc k) (suc d) run i l f w =
      let m : k ≤ d = omega arith in
      let n : k ≤ suc d = omega arith in
      lost-at k d run i (lost held calls k i) refl (λ t. lost-missing k (suc d) run i n t (without_map (lost held calls (suc k)) (lost held calls k) (lost-less k) run w)) f w
      (λ j g v. lost-missing k d (i ∷ run) j m g v)
