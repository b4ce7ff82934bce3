-- The parts of a form and the places in them. Assumes nothing.
use Rattle.std.specs.Prelude.{◌≡◌, ℕ, ◌+◌, ◌-◌, ◌<◌, ◌≤◌, ◌⊎◌, List, length, Some, None, Option}
use Rattle.std.specs.Option.{option_or}
use Rattle.forms.specs.Reading.{expression_of}
use Rattle.forms.specs.Heads.{expression, IsForm}
use Rattle.forms.specs.declared.form.Form.{Form}
use Rattle.places.specs.Frames.{moved, nearest_frame, Within}
use Rattle.places.specs.declared.frames.Part.{Part}
use Rattle.places.specs.declared.stretch.Stretch.{Stretch}

-- The part is this form, which begins behind n bytes and has that frame around it.
pub record IsPart (n : ℕ) (f : Form) (frame : Option Stretch) (part : Part) : Type 0 where
  pub bytes : part.form.bytes.now ≡ f.bytes.now
  pub place : part.at ≡ n
  pub around : part.frame ≡ frame

-- by where the place p lies: before the first part, which begins behind w bytes, in it, or in the second
abbrev pub LiesIn : ℕ → ℕ → Form × Option Stretch → Form × Option Stretch → Option Part → Type 0
LiesIn p w first second None = p < w
LiesIn p w first second (Some part) =
    ((w ≤ p) × (p < w + length first.0.bytes.now) × IsPart w first.0 first.1 part)
    ⊎ ((w + length first.0.bytes.now ≤ p) × IsPart (w + length first.0.bytes.now) second.0 second.1 part)

-- A part of the bytes in which the place p lies: its nearest frame around the place is that of the whole, and where it has
-- none, the frame around the part is.
pub record HasNearest (bs : List ℕ) (p : ℕ) (part : Part) : Type 0 where
  pub begun : part.at ≤ p
  pub whole : part.at + length part.form.bytes.now ≤ length bs
  pub shorter : length part.form.bytes.now < length bs
  pub form : IsForm bs → IsForm part.form.bytes.now
  pub around : Within (length bs) part.frame
  pub nearest : IsForm bs → nearest_frame p (expression_of bs) ≡ option_or (moved part.at (nearest_frame (p - part.at) (expression part.form))) part.frame
