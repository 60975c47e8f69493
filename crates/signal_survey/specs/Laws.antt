-- What is so of where signals come.
use Rattle.std.specs.Prelude.{◌↔◌, ℕ}
use Rattle.object_files.specs.declared.image.Image.{Image}
use Rattle.signaller.specs.declared.signal_id.SignalId.{SignalId}
use Rattle.survey_rules.specs.Escapes.{Position, Comes}
use Rattle.signal_survey.specs.Follows.{Begins, Follows, place_at}
use Rattle.place_walks.specs.Reach.{Reached}

-- a signal comes exactly where a walk comes that begins where it is raised
abbrev pub ComesWhereReached : Type 0
ComesWhereReached = (image : Image) (s : SignalId) (instance procedure : ℕ) (position : Position)
    → Comes image s instance procedure position ↔ Reached (Begins image s) (Follows image s) (place_at instance procedure position)
