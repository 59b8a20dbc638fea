-- From the parts of a run to its end.
use Rattle.std.proofs.Common.{◌≡◌, ℕ, inl, inr, List, [], Option, refl, append-nil, subst, ◌⊎◌}
use Rattle.sv_io.specs.Shelf.{ShelfState}
use Rattle.sv_io.specs.Sink.{SinkState, SentAll, SentPart}
use Rattle.app_top.specs.Words.{Names}
use Rattle.view_engine.specs.Counter.{Shape}
use Rattle.view_engine.specs.declared.form.Event.{Event}
use Rattle.app_top.specs.Output.{Input, frames}
use Rattle.app_top.specs.Ends.{CameTo, InputEnd, Quiet, Begun}
use Rattle.app_top.specs.declared.end.End.{End}
use Rattle.app_top.specs.declared.end.End.TheVariants.{Done, AppRefused, Usage, ScriptRefused, CannotRead, WriteFailed, OutOfMemory, TooLong}

pub whole_part : {known later : Option (List ℕ)} {all : List ℕ} → SentAll known later all → SentPart known later all
whole_part {known} {later} {all} sent = record { rest = []; part = record { sent = all; whole = append-nil all; told = sent } }

-- the files couldn't be used
pub came_by_input : (end : End) (names : Names) (shelf shelf' : ShelfState) (out : SinkState) (bodies : ℕ)
    → InputEnd end names shelf shelf' → CameTo end names shelf shelf' out out bodies bodies
came_by_input (AppRefused refusal) names shelf shelf' out bodies h = (refl, h)
came_by_input (ScriptRefused refusal) names shelf shelf' out bodies h = (refl, h)
came_by_input (CannotRead file) names shelf shelf' out bodies h = (refl, h)
came_by_input (TooLong file taken) names shelf shelf' out bodies h = (refl, h)
came_by_input OutOfMemory names shelf shelf' out bodies h = λ files told. inl refl
came_by_input Usage names shelf shelf' out bodies h = absurd h
came_by_input WriteFailed names shelf shelf' out bodies h = absurd h
came_by_input Done names shelf shelf' out bodies h = absurd h

-- a part of the frames of these two files went out
pub begun : (files : List ℕ → Option (List ℕ)) (names : Names) (shape : Shape) (events lent : List Event) (before after : SinkState) → Input files names shape events
    → lent ≡ events → SentPart before.wrote after.wrote (frames shape lent) → Quiet before after ⊎ Begun files names before after
begun files names shape events lent before after input same part = inr (record {
  shape = shape;
  events = events;
  input = input;
  part = subst (λ (l : List Event). SentPart before.wrote after.wrote (frames shape l)) same part;
})
