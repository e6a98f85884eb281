-- `rule_of`: a rule of its own, or that of 1;1.
-- Assumes nothing.
use mathlib.Core.Path.{sym, ◌∙◌}
use Rattle.setting.specs.Views.{class_as}
use Rattle.table.proofs.Classes.{rule-shared, rule-own}
use Rattle.table.proofs.table.rule_of.Goals as goal

pub returns-then-is_own_rule : goal.returns-then-is_own_rule
returns-then-is_own_rule c = let a = c.args in
    let k = rule-own (class_as a.class) a.number (sym c.is_own_rule.ensures ∙ c.if-is_own_rule.true) in
    rw k.1 (c.own_rule.ensures k.0)

pub returns : goal.returns
returns c = let a = c.args in rw (rule-shared (class_as a.class) a.number (sym c.is_own_rule.ensures ∙ c.if-is_own_rule.false)) c.rule_of_one.ensures
