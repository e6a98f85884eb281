-- Operators that cannot come where a session stands.
-- Assumes nothing.
use Prim.Native.Nat.{ℕ}
use mathlib.Core.Path.{◌≡◌, refl, sym, ◌∙◌}
use mathlib.Core.Bool.{Bool, true, false, true≢false}
use lib.Dec.{eqb}
use borrow.Author.Tests.{eqb-true, ne_eqb}
use Rattle.scope.specs.Choice.{pick, among}
use Rattle.scope.specs.Data.{Image}
use Rattle.scope.specs.Motif.{Picture}
use Rattle.scope.specs.Arm.{Page}
use Rattle.scope.specs.Order.{Phase, between_sessions, in_session, in_stream, in_page, in_image, in_pattern, may_come, drawn}
use Rattle.scope.specs.Session.{phase_busy, phase_drawing, Busy}
use Rattle.place.specs.Places.{Drawn, drawn_so}

-- an operator comes, so it is none that may not come there
pub not-tag : (p : Phase) (b : Bool) (tag k : ℕ) → may_come p b k ≡ false → may_come p b tag ≡ true → tag ≡ k → ⊥
not-tag p b tag k f t e = true≢false (sym t ∙ rw e f)

neither : (t : Bool) → pick t false false ≡ false
neither true = refl
neither false = refl

module _ (b : Bool) where
  -- between sessions
  pub first-not : (tag k : ℕ) → eqb k 0x41 ≡ false → may_come between_sessions b tag ≡ true → tag ≡ k → ⊥
  unfolding may_come
  first-not tag k h = not-tag between_sessions b tag k h

  -- in a session at rest
  pub rest-not_read : may_come in_session b 0x5c ≡ false
  unfolding may_come among
  rest-not_read = neither b

  pub rest-not_end : may_come in_session b 0x5d ≡ false
  unfolding may_come among
  rest-not_end = neither b

  pub rest-not_exec : may_come in_session b 0x5e ≡ false
  unfolding may_come among
  rest-not_exec = neither b

  pub rest-not_pattern : may_come in_session b 0xb3 ≡ false
  unfolding may_come among
  rest-not_pattern = neither b

  -- while a motif is read
  pub stream_ends : (tag : ℕ) → may_come in_stream b tag ≡ true → (tag ≡ 0x5c → ⊥) → tag ≡ 0x5d
  unfolding may_come
  stream_ends tag t n =
      let e : eqb tag 0x5c ≡ false = ne_eqb tag 0x5c n in
      let z : eqb tag 0x5d ≡ true = rw e at t in
      eqb-true tag 0x5d z

  -- in a page
  drawn-not : (p : Page) (i : Picture) (k : ℕ) → ((n : ℕ) → may_come (in_page n) b k ≡ false) → ((j : Image) → may_come (in_image j) b k ≡ false)
      → ((j : Image) → may_come (in_pattern j) b k ≡ false) → may_come (phase_drawing p i) b k ≡ false
  unfolding phase_drawing
  drawn-not p Picture.none k f g h = f _
  drawn-not p (Picture.being i) k f g h = g i
  drawn-not p (Picture.hatching x i) k f g h = h i

  pub page-not : (x : Busy) → Drawn x → (tag k : ℕ) → ((n : ℕ) → may_come (in_page n) b k ≡ false) → ((j : Image) → may_come (in_image j) b k ≡ false)
      → ((j : Image) → may_come (in_pattern j) b k ≡ false) → may_come (phase_busy x) b tag ≡ true → tag ≡ k → ⊥
  unfolding phase_busy
  page-not x (drawn_so {p = p} {i = i}) tag k f g h t = not-tag (phase_drawing p i) b tag k (drawn-not p i k f g h) t

  pub page-not_begin : (n : ℕ) → may_come (in_page n) b 0x5b ≡ false
  unfolding may_come drawn among
  page-not_begin n = refl

  pub page-not_read : (n : ℕ) → may_come (in_page n) b 0x5c ≡ false
  unfolding may_come drawn among
  page-not_read n = refl

  pub page-not_end : (n : ℕ) → may_come (in_page n) b 0x5d ≡ false
  unfolding may_come drawn among
  page-not_end n = refl

  pub image-not_begin : (i : Image) → may_come (in_image i) b 0x5b ≡ false
  unfolding may_come
  image-not_begin i = refl

  pub image-not_read : (i : Image) → may_come (in_image i) b 0x5c ≡ false
  unfolding may_come
  image-not_read i = refl

  pub image-not_end : (i : Image) → may_come (in_image i) b 0x5d ≡ false
  unfolding may_come
  image-not_end i = refl

  pub page-not_over : (n : ℕ) → may_come (in_page n) b 0x42 ≡ false
  unfolding may_come drawn among
  page-not_over n = refl

  pub image-not_over : (i : Image) → may_come (in_image i) b 0x42 ≡ false
  unfolding may_come
  image-not_over i = refl

  pub pattern-not_begin : (i : Image) → may_come (in_pattern i) b 0x5b ≡ false
  unfolding may_come
  pattern-not_begin i = refl

  pub pattern-not_read : (i : Image) → may_come (in_pattern i) b 0x5c ≡ false
  unfolding may_come
  pattern-not_read i = refl

  pub pattern-not_end : (i : Image) → may_come (in_pattern i) b 0x5d ≡ false
  unfolding may_come
  pattern-not_end i = refl

  pub pattern-not_over : (i : Image) → may_come (in_pattern i) b 0x42 ≡ false
  unfolding may_come
  pattern-not_over i = refl
