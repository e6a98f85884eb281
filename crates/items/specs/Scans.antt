-- What the code's answer on the items before an operator stands for in the definitions.
-- Assumes nothing.
use Rattle.std.specs.Prelude.{ℕ, ◌≤◌, ◌<◌, List, Option, Some, None, Result, Ok, Err}
use Rattle.scope.specs.Item.{Scan, tagged, ended}
use Rattle.refusal.specs.Codes.{number_of}
use Rattle.refusal.specs.declared.refusal.Refusal.{Refusal}
use Rattle.items.specs.Rows.{rows_of}
use Rattle.items.specs.declared.scan.Tagged.{Tagged}

-- what the code found, with the array that it left the attributes in
abbrev pub scan_as : Result (Option Tagged) Refusal → List ℕ → Scan
scan_as (Ok (Some t)) a = tagged t.tag t.at (rows_of a t.count)
scan_as (Ok None) a = ended
scan_as (Err r) a = Scan.no (number_of r.code) r.place

-- a tag stands within the bytes, not before the start, and is a byte; it has at most 16 attributes
abbrev pub Within : ℕ → ℕ → Result (Option Tagged) Refusal → Type 0
Within len start (Ok (Some t)) = (start ≤ t.at) × (t.at < len) × (t.count ≤ 16) × (t.tag < 256)
Within len start (Ok None) = Unit {0}
Within len start (Err r) = Unit {0}
