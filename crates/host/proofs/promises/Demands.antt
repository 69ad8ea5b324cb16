-- DEMANDS 1 AND 2 of `kelindap_request`: of what it gives back and leaves in sessions, sheet and answer buffer. `Requested` is its contract. Assumes nothing.
use Rattle.octets.proofs.Kit.{ℕ, ◌+◌, ◌≤◌, ◌≡◌, List, length, get_or}
use Rattle.device.specs.{Events.{State, Effect}, Changed.{Requested, Outside, none}, Due.RequestDue, Demand1.Leaves, Demand2.effect_seen, declared.Sessions.Sessions}
use Rattle.device.proofs.promises.{Called.{call_leaves, call_due, call_only}, Parts.{kept_outside, none_refused, first_within, second_within}}
use Rattle.host.specs.{Calls.{runs_of, gave}, declared.Reply.Reply}

-- sessions q, sheet s and buffer o were lent with a request a on connection c; r came back, and q', s' and o' are what they then hold
module _ (q : Sessions) (mode c group : ℕ) (a s o : List ℕ) (r : Reply) (q' : Sessions) (s' o' : List ℕ)
    (call : Requested q mode c group a s o (gave r q') s' o') where
  abbrev found : State
  found = record { sessions = q; sheet = s }

  -- DEMAND 1: AN OUTCOME OF THE LIST, AND WHAT IT LEAVES AS FOUND
  pub request_leaves : Leaves q a s o (gave r q').done s' o'
  request_leaves = call_leaves q mode c group a s o (gave r q').done s' o' call.call

  -- DEMAND 2: WHAT IT DID IS WHAT IS DUE
  pub request_due : RequestDue mode c group a o found (effect_seen (gave r q').done s' o')
  request_due = call_due q mode c group a s o (gave r q').done s' o' call.call

  -- AND NOTHING ELSE IS
  pub request_only : (y : Effect) → RequestDue mode c group a o found y → y ≡ effect_seen (gave r q').done s' o'
  request_only = call_only q mode c group a s o (gave r q').done s' o' call.call

  -- EVERY BYTE OUTSIDE THE PARTS SAID TO HAVE CHANGED IS AS FOUND
  pub request_outside : (i : ℕ) → Outside (runs_of r.changed) i → get_or s' i 0 ≡ get_or s i 0
  request_outside = kept_outside q mode c group a s o (gave r q') s' o' call

  -- WHAT WAS REFUSED HAS NONE
  pub request_none : 2 ≤ r.outcome → runs_of r.changed ≡ none
  request_none = none_refused q mode c group a s o (gave r q') s' o' call

  -- BOTH LIE IN THE SHEET
  pub request_first : r.changed.first.offset + r.changed.first.length ≤ length s
  request_first = first_within q mode c group a s o (gave r q') s' o' call

  pub request_second : r.changed.second.offset + r.changed.second.length ≤ length s
  request_second = second_within q mode c group a s o (gave r q') s' o' call
