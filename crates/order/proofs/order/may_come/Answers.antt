-- `may_come` meets its contract.
-- Assumes nothing.
use Rattle.scope.specs.Order.{may_come}
use Rattle.order.proofs.order.may_come.Goals as goal

pub returns-in-BetweenSessions : goal.returns-in-BetweenSessions
unfolding may_come
returns-in-BetweenSessions c = rw c.in-BetweenSessions.is

pub returns-in-InSession : goal.returns-in-InSession
unfolding may_come
returns-in-InSession c = rw c.in-InSession.is c.in_session.ensures

pub returns-in-InStream : goal.returns-in-InStream
unfolding may_come
returns-in-InStream c = rw c.in-InStream.is c.in_stream.ensures

pub returns-in-InPage : goal.returns-in-InPage
unfolding may_come
returns-in-InPage c = rw c.in-InPage.is c.in_page.ensures

pub returns-in-InMotif : goal.returns-in-InMotif
unfolding may_come
returns-in-InMotif c = rw c.in-InMotif.is c.is_drawn.ensures

pub returns-in-InImage : goal.returns-in-InImage
unfolding may_come
returns-in-InImage c = rw c.in-InImage.is c.in_rows.ensures

pub returns-in-InPattern : goal.returns-in-InPattern
unfolding may_come
returns-in-InPattern c = rw c.in-InPattern.is c.in_rows-in-InPattern.ensures
