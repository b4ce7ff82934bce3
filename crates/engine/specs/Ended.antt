-- Which pending calls a test of the code picks. Assumes nothing.
use Rattle.std.specs.Prelude.{◌≡◌, Bool}
use Rattle.orc.specs.Calls as calls
use Rattle.forms.specs.Pendings.{pending_of}
use Rattle.forms.specs.declared.pending.Pending.{Pending}

-- each answer that the code's test may give of a call is that of the test
abbrev pub Decides : (Pending → Bool → Type 0) → (calls.Pending → Bool) → Type 0
Decides Answers test = (p : Pending) (r : Bool) → Answers p r → r ≡ test (pending_of p)
