-- What a call in C does with the sessions, and a restore with the sheet; what a request in C gives: its reply and the sessions that it left,
-- together what `device::request` gives; and what playing in C gives. Assumes nothing.
use Rattle.std.specs.Prelude.{ℕ, ◌≡◌, List}
use Rattle.octets.specs.Octets.{Octets}
use Rattle.device.specs.Sessions.{session_of}
use Rattle.device.specs.Events.{named_outcome, connect_of, disconnect_of}
use Rattle.device.specs.declared.Sessions.{Sessions}
use Rattle.device.specs.declared.Changed.{Changed}
use Rattle.device.specs.declared.Made.{Made}
use Rattle.versions.specs.Restoring.{RestoredAs}
use Rattle.playback.specs.Outcome.{Outcome}
use Rattle.host.specs.declared.Wide.{Wide}
use Rattle.host.specs.declared.Reply.{Reply}
use Rattle.host.specs.declared.Handled.{Handled}

-- WHAT A CONNECT AND A DISCONNECT DID: sessions q were found, r came back, q' is what they then are
abbrev pub Connects : Sessions → ℕ → ℕ → Sessions → Type 0
Connects q c r q' = (r ≡ named_outcome c) × (q' ≡ connect_of q c)

abbrev pub Disconnects : Sessions → ℕ → ℕ → Sessions → Type 0
Disconnects q c r q' = (r ≡ named_outcome c) × (q' ≡ disconnect_of q c)

-- WHAT A RESTORE DID on behalf of connection c of sessions q: sheet s and store st were found, r came back, s' is what the sheet then holds; the store being bytes
pub record Restores (q : Sessions) (c : ℕ) (s st : List ℕ) (n r : ℕ) (s' : List ℕ) : Type 0 where
  pub did : RestoredAs (session_of q c) s st n r s'
  pub store_bytes : Octets st

-- the parts that a reply names, as the runs that they are
abbrev pub runs_of : Wide → Changed
runs_of w =
    record {
      first = record { offset = w.first.offset; length = w.first.length };
      second = record { offset = w.second.offset; length = w.second.length };
    }

abbrev pub gave : Reply → Sessions → Made
gave r q = record { done = record { outcome = r.outcome; count = r.count; sessions = q }; changed = runs_of r.changed }

abbrev pub gave_played : Handled → Sessions → Outcome
gave_played r q = record { refusal = r.refusal; handled = r.handled; sessions = q }

-- the version: 65536 times its first number, 256 times its second, its third; so this is 1.0.0
abbrev pub version_of : ℕ
version_of = 65536
