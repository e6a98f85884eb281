-- The attribute that an attribute of the code stands for.
-- Assumes nothing.
use Rattle.scope.specs.Item as item
use Rattle.values.specs.declared.value.Attribute.{Attribute}

abbrev pub attribute_as : Attribute → item.Attribute
attribute_as a = record { number = a.number; tag = a.tag; at = a.at; count = a.count; first = a.first }
