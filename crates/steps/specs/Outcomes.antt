-- What making a due call and answering a pending call come to. Assumes nothing.
use Rattle.std.specs.Prelude.{ℕ, ◌<◌, List, length, Some, Option, MatchOption}
use Rattle.orc.specs.Expressions.{Expression, Definition}
use Rattle.orc.specs.Steps.{Act}
use Rattle.places.specs.declared.stretch.Stretch.{Stretch}
use Rattle.walks.specs.Capacity.{capacity}
use Rattle.walks.specs.Contents.{content}
use Rattle.events.specs.Acts.{act_of}
use Rattle.steps.specs.Made.{Made}
use Rattle.steps.specs.Replied.{read_in, Replied}
use Rattle.steps.specs.declared.step.Step.{Step}
use Rattle.steps.specs.declared.reply.Reply.{Reply}
use Rattle.steps.specs.declared.framed.Framed.{Framed}

-- The due call at the offset p is made; or for whatever it could become there is no room.
abbrev pub CallOutcome : List Definition → ℕ → ℕ → List ℕ → ℕ → Option Step → Type 0
CallOutcome ds t k bs p r = MatchOption r
    ((a : Act) (bs' : List ℕ) → Made ds t k bs p a bs' → capacity < length bs')
    (λ s. Made ds t k bs p (act_of s.act) (content s.form.now))

-- The pending call at the offset p is answered as the frame nearest to it takes the reply w; or for whatever that could come
-- to there is no room.
abbrev pub ReplyOutcome : List ℕ → ℕ → ℕ → Option Stretch → Option Reply → Type 0
ReplyOutcome bs p w frame r = MatchOption r
    ((a : Act) (q : Option Stretch) (bs' : List ℕ) → Replied bs p w frame a q bs' → capacity < length bs')
    (λ s. Replied bs p w frame (act_of s.step.act) s.pruned (content s.step.form.now))

-- what the frame around a call is read as
abbrev pub around : Framed → Expression
around f = read_in f.frame.form.bytes.now f.frame.stretch

-- The call within a frame is answered as that frame takes the reply w, or there is no room.
abbrev pub FramedOutcome : Framed → ℕ → Option Reply → Type 0
FramedOutcome f w r = ReplyOutcome f.frame.form.bytes.now f.place w (Some f.frame.stretch) r
