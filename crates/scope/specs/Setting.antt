-- What is settled before the first item of a job, and goes wherever a byte is read: the job's class and byte order, by its header; and the colour space that its
-- pages start in, as the caller asks.
-- Assumes nothing.
use Rattle.std.specs.Prelude.{Bool, true, false, ℕ}
use Rattle.scope.specs.Header.{Class, one, two, Header}

pub record Setting : Type 0 where
  pub class : Class
  pub high : Bool
  pub gray : Bool

-- the header of a job of this setting
abbrev pub headed : Setting → (next : ℕ) → Header
headed set next = Header.is set.class set.high next

-- the setting of a job by its header; where it has none, nothing is read
abbrev pub setting_of : (gray : Bool) → Header → Setting
setting_of gray (Header.is class high next) = record { class = class; high = high; gray = gray }
setting_of gray (Header.no code place) = record { class = one; high = false; gray = gray }

-- a motif in a job: in its own byte order, else as the job
abbrev pub of_motif : Setting → (high : Bool) → Setting
of_motif set high = record { class = set.class; high = high; gray = set.gray }

-- the same class
abbrev pub same_class : Class → Class → Bool
same_class one one = true
same_class one two = false
same_class two one = false
same_class two two = true
