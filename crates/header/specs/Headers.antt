-- What the code's answers on a header stand for in the definitions.
-- Assumes nothing.
use Rattle.std.specs.Prelude.{ℕ, ◌≤◌, ◌≡◌, Result, Ok, Err}
use Rattle.scope.specs.Header.{Form, ends, breaks, Header}
use Rattle.setting.specs.Views.{class_as}
use Rattle.refusal.specs.Codes.{number_of}
use Rattle.refusal.specs.declared.refusal.Refusal.{Refusal}
use Rattle.header.specs.declared.header.Header.{Header as CodeHeader}

-- the form that the code found: where it ends, or where it breaks
abbrev pub form_as : Result ℕ Refusal → Form
form_as (Ok n) = ends n
form_as (Err r) = breaks r.place

-- a header that ends does so within the bytes; one that breaks is 2
abbrev pub FormWithin : ℕ → Result ℕ Refusal → Type 0
FormWithin len (Ok n) = n ≤ len
FormWithin len (Err r) = number_of r.code ≡ 2

-- the header that the code read
abbrev pub header_as : Result CodeHeader Refusal → Header
header_as (Ok h) = Header.is (class_as h.class) h.high h.next
header_as (Err r) = Header.no (number_of r.code) r.place

-- the items begin within the bytes, or at their end
abbrev pub HeaderWithin : ℕ → Result CodeHeader Refusal → Type 0
HeaderWithin len (Ok h) = h.next ≤ len
HeaderWithin len (Err r) = Unit {0}
