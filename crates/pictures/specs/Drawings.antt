-- The picture of a run: its scale, its first line, and what is said of an ending. Assumes nothing.
use Rattle.std.specs.Prelude.{◌≡◌, ℕ, ◌*◌, ◌<◌, ◌≤◌, List, ◌++◌, Option, Some, None, codes, decimal, nat_lt, find, unwrap_or}
use Rattle.pictures.specs.declared.lane.Ending.{Ending}
use Rattle.pictures.specs.declared.lane.Ending.TheVariants.{Answered, Withdrawn, Lapsed, Standing}
use Rattle.pictures.specs.declared.lane.Lane.{Lane}
use Rattle.pictures.specs.declared.lane.Publication.{Publication}

-- the scales: 1, 2 and 5, and ten times any scale
pub data Series : ℕ → Type 0 where
  one : Series 1
  two : Series 2
  five : Series 5
  tenfold : {ticks : ℕ} → Series ticks → Series (10 * ticks)

-- A column of a picture stands for so many ticks: the smallest scale at which the clock has a column among 60.
pub record Scale (clock ticks : ℕ) : Type 0 where
  pub in_series : Series ticks
  pub fits : clock < 60 * ticks
  pub smallest : (other : ℕ) → Series other → clock < 60 * other → ticks ≤ other

-- the first of some scales at which a clock fits, and 100000000 if there is none
abbrev pub first_fit : ℕ → List ℕ → ℕ
first_fit clock steps = unwrap_or (find (λ ticks. nat_lt clock (60 * ticks)) steps) 100000000

-- the character that ends a bar
abbrev pub mark_of : Ending → List ℕ
mark_of (Answered v at) = codes "x"
mark_of (Withdrawn at) = codes "/"
mark_of (Lapsed at) = codes "!"
mark_of Standing = codes ">"

-- the tick of an ending, if there is one
abbrev pub tick_of : Ending → Option ℕ
tick_of (Answered v at) = Some at
tick_of (Withdrawn at) = Some at
tick_of (Lapsed at) = Some at
tick_of Standing = None

-- what is said of an ending in words
abbrev pub ending_text : Ending → List ℕ
ending_text (Answered v at) = codes "answered " ++ (decimal v ++ (codes " at " ++ decimal at))
ending_text (Withdrawn at) = codes "withdrawn at " ++ decimal at
ending_text (Lapsed at) = codes "lapsed at " ++ decimal at
ending_text Standing = codes "standing"

-- what stands in front of a bar
abbrev pub label_text : Lane → List ℕ
label_text l = codes "ticket " ++ (decimal l.ticket ++ (codes "  site " ++ (decimal l.site ++ (codes " (" ++ (decimal l.value ++ codes ")")))))

-- a publication in the list of a picture
abbrev pub value_text : Publication → List ℕ
value_text p = decimal p.clock ++ (codes ": " ++ decimal p.value)

-- the first line of a picture, and what stands in its place where there is nothing to draw
abbrev pub heading : ℕ → ℕ → List ℕ
heading ticks clock = codes "ticks in a column: " ++ (decimal ticks ++ (codes ", clock: " ++ (decimal clock ++ codes "\n")))

abbrev pub quiet_line : ℕ → List ℕ
quiet_line clock = codes "no ticket and no publication up to tick " ++ (decimal clock ++ codes "\n")

-- a text begins with a line
abbrev pub Begins : List ℕ → List ℕ → Type 0
Begins line text = (rest : List ℕ) × (text ≡ line ++ rest)
