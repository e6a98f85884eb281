-- The work buffer after a replacement: those before the old motif stay, the new one stands in its place, those behind it have moved up to it.
-- Assumes nothing.
use Prim.Native.Nat.{ℕ, ◌+◌, ◌-◌, ◌≤◌}
use mathlib.Core.Path.{◌≡◌, sym, ap, ◌∙◌}
use mathlib.Core.List.{List, ◌++◌}
use native.Mathlib.Omega.{arith}
use lib.ListN.{length, take, drop, length-take}
use lib.Seq.{take-take, take-add, drop_at}
use Rattle.scope.specs.Motif.{Own, Motif, Held, held_as, bytes_held}
use Rattle.scope.specs.Session.{replaced}
use Rattle.store.specs.Replaced as store
use Rattle.store.proofs.Stored.{replaced-length, replaced-held}
use Rattle.motif.specs.Held.{Rows, InRow, start_in, long_in, store_of}
use Rattle.motif.specs.Stored.{Stores}
use Rattle.motif.proofs.Stored.{row-start, row-long}
use Rattle.holding.proofs.Swapped.{store_swapped, bytes-swapped}

-- the end of the first bytes
drop-taken : (w : List ℕ) (e n : ℕ) → e ≤ n → n ≤ length w → drop e (take n w) ≡ take (n - e) (drop e w)
drop-taken w e n h l =
    let s : e + (n - e) ≡ n = omega arith in
    let p : length (take e w) ≡ e = simp length-take (omega arith) in
    let q : take n w ≡ take e w ++ take (n - e) (drop e w) = ap (λ v. take v w) (sym s) ∙ take-add e (n - e) w in
    ap (drop e) q ∙ drop_at (take e w) (take (n - e) (drop e w)) e p

pub stores-swapped : {t w : List ℕ} {n i used joined : ℕ} {ms : List Motif} {m : Motif} (name bytes : List ℕ) (ops : List Own) → Rows t n ms → used ≡ bytes_held ms → Stores w ms
    → held_as name ms ≡ Held.is m → InRow ms i m → joined ≡ length bytes → take joined (drop used w) ≡ bytes → used + joined ≤ length w
    → Stores (store.replaced w (start_in t i) (long_in t i) used joined) (replaced name bytes ops ms)
stores-swapped {t} {w} {i = i} {used = used} {joined = joined} {ms = ms} {m = m} name bytes ops k u s h r j b l =
    let rs = row-start k r in
    let rl = row-long k r in
    let bs = bytes-swapped name bytes ops ms h in
    let p : start_in t i + long_in t i ≤ used = omega arith in
    let a : start_in t i ≤ used = omega arith in
    let g : used ≤ length w = omega arith in
    let n : bytes_held (replaced name bytes ops ms) ≡ used + joined - long_in t i = omega arith in
    let e : store_of ms ≡ take used w = sym s.bytes ∙ ap (λ v. take v w) (sym u) in
    let f : take (start_in t i) (take used w) ≡ take (start_in t i) w = take-take (start_in t i) used w a in
    let d : drop (start_in t i + long_in t i) (take used w) ≡ take (used - (start_in t i + long_in t i)) (drop (start_in t i + long_in t i) w) = drop-taken w (start_in t i + long_in t i) used p g in
    let z = replaced-length w (start_in t i) (long_in t i) used joined p l in
    let q : store_of (replaced name bytes ops ms) ≡ take (start_in t i) w ++ (take joined (drop used w) ++ take (used - (start_in t i + long_in t i)) (drop (start_in t i + long_in t i) w)) =
    store_swapped name bytes ops k h r.row ∙ rw (e, f, d, ← b) in
    record { within = omega arith; bytes = ap (λ v. take v (store.replaced w (start_in t i) (long_in t i) used joined)) n ∙ replaced-held w (start_in t i) (long_in t i) used joined p l ∙ sym q }
