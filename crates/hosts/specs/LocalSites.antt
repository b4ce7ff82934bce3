-- What each local site replies. Assumes nothing.
use Rattle.std.specs.Prelude.{◌≡◌, ℕ, List, codes, Result, MatchResult}
use Rattle.orc.specs.Meaning.{Window, Handle, known, unknown}
use Rattle.orc.specs.Local.{local, let_replies, if_replies, signal_replies, rtimer_replies}
use Rattle.hosts.specs.declared.local.LocalSite.{LocalSite}
use Rattle.hosts.specs.declared.local.LocalSite.TheVariants.{Let, If, Signal, Rtimer}
use Rattle.hosts.specs.declared.local.NoLocalSite.{NoLocalSite}
use Rattle.hosts.specs.declared.local.Reply.{Reply}

abbrev pub replies_of : LocalSite → ℕ → Handle
replies_of Let = let_replies
replies_of If = if_replies
replies_of Signal = signal_replies
replies_of Rtimer = rtimer_replies

-- its name
abbrev pub name_of : LocalSite → List ℕ
name_of Let = codes "let"
name_of If = codes "if"
name_of Signal = codes "signal"
name_of Rtimer = codes "rtimer"

-- the result is the site of this number, or an error where the number is unknown
abbrev pub IsNumbered : ℕ → Result LocalSite NoLocalSite → Type 0
IsNumbered site r = MatchResult r (λ s. local site ≡ known (replies_of s)) (λ e. (e.0 ≡ site) × (local site ≡ unknown))

-- the window of a reply: its age alone, and its value alone
abbrev pub window_of : Reply → Window
window_of r = record { earliest = r.age; latest = r.age; lowest = r.value; highest = r.value }
