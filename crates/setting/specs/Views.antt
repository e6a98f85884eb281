-- The code's class and setting as those of the definitions.
-- Assumes nothing.
use Rattle.scope.specs.Header.{Class as ScopeClass, one, two}
use Rattle.scope.specs.Setting.{Setting as ScopeSetting}
use Rattle.setting.specs.declared.setting.Class.{Class}
use Rattle.setting.specs.declared.setting.Class.TheVariants.{One, Two}
use Rattle.setting.specs.declared.setting.Setting.{Setting}

abbrev pub class_as : Class → ScopeClass
class_as One = one
class_as Two = two

abbrev pub setting_as : Setting → ScopeSetting
setting_as set = record { class = class_as set.class; high = set.high; gray = set.gray }
