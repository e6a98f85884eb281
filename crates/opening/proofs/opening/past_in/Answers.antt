-- `past_in`: one tag after the other.
-- Assumes nothing.
use native.Mathlib.Omega.{arith}
use Rattle.opening.proofs.Edges.{over, source-opens, source-closes, source_stays}
use Rattle.opening.proofs.opening.past_in.Goals as goal

pub returns-in-66 : goal.returns-in-66
returns-in-66 c = λ a. over c.in-66.is

pub returns-in-72 : goal.returns-in-72
returns-in-72 c = λ a. source-opens a (λ z. omega arith) c.in-72.is

pub returns-in-73 : goal.returns-in-73
returns-in-73 c = λ a. source-closes a (λ z. omega arith) (λ z. omega arith) c.in-73.is

pub returns-in_default : goal.returns-in_default
returns-in_default c = λ a. source_stays a (λ z. omega arith) (λ z. omega arith) (λ z. omega arith)
