-- What the code's phases say in 01's words.
-- Assumes nothing.
use Rattle.scope.specs.Order as def_order
use Rattle.due.specs.Views.{image_as}
use Rattle.order.specs.declared.order.Phase.{Phase}
use Rattle.order.specs.declared.order.Phase.TheVariants.{BetweenSessions, InSession, InStream, InPage, InMotif, InImage, InPattern}

-- where an operator stands
abbrev pub phase_as : Phase → def_order.Phase
phase_as BetweenSessions = def_order.between_sessions
phase_as InSession = def_order.in_session
phase_as InStream = def_order.in_stream
phase_as (InPage n) = def_order.in_page n
phase_as (InMotif n) = def_order.in_motif n
phase_as (InImage i) = def_order.in_image (image_as i)
phase_as (InPattern i) = def_order.in_pattern (image_as i)
