-- THE CONTRACT of `kelindap_plain_request`, as it stands at its function, with the function's arguments in their places: what it
-- says, which is what the first engine's says beside the parts that it names, and that this is a `Call`. So what is proved of
-- calls holds of a host that serves its requests by the plain engine, or by both in turn.
-- `a` are its arguments in their order, r what came back, e what the arguments are then.
use base.Logic.{SProp, ent, id⊢}
use contract.{Lifetimes.Lfts, Monad.{Fun, fact, fact_mono}}
use denote.{Triple.{Entry.{Args, Res}, Clauses.AtExit}}
use types.Logic.{Logic}
use seplogic.Ra.Ura.{Ura}
use prog.{Memory.Memory, Routine.Routine}
use Rattle.device.specs.{Events.Called, Demand2.effect_seen}
use Rattle.events.specs.Events.{request}
use Rattle.history.specs.Calls.{Call, requests}
use Rattle.plain_host.specs.Calls.{gave}
use Rattle.plain_host.specs.contracts.kelindap_plain_request as plain_fn

-- kelindap_plain_request(sessions, sheet, mode, connection, group, apdu, answer)
module _ {M : Type 1} {𝓤 : Ura M} (𝓛 : Logic 𝓤) (mem : Memory → SProp 𝓤) (run : Routine → Fun 𝓤) (κs : Lfts 3)
    (a : Args plain_fn.signature κs) (r : Res plain_fn.signature κs) (e : AtExit plain_fn.ended κs) where
  -- a contract entails a fact
  abbrev Entails : SProp 𝓤 → Type 0 → Type 1
  Entails S T = ent 𝓤 S (fact 𝓤 T)

  pub plain_says :
      Entails ((plain_fn.clauses 𝓛 mem run κs a).ensures tt r e)
      (Called a.0 a.1.1.0 a.1.1.1.0 a.1.1.1.1.0 a.1.1.1.1.1.0.now a.1.0.now a.1.1.1.1.1.1.0.now (gave r)
      e.1.0.now e.1.1.1.1.1.1.0.now)
  plain_says = id⊢ 𝓤 _

  pub plain_is :
      Entails ((plain_fn.clauses 𝓛 mem run κs a).ensures tt r e)
      (Call record { sessions = a.0; sheet = a.1.0.now }
      (request a.1.1.0 a.1.1.1.0 a.1.1.1.1.0 a.1.1.1.1.1.0.now a.1.1.1.1.1.1.0.now)
      (effect_seen (gave r) e.1.0.now e.1.1.1.1.1.1.0.now))
  plain_is = fact_mono 𝓤 _ _ (requests _ _ _ _ _ _ _ _)
