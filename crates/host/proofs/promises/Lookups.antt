-- THE CONTRACT OF EACH CALL THAT CHANGES NOTHING, as it stands at its function, with the function's arguments in their places: as in `Contracts`, but these have no `..-is`.
-- `a` are a function's arguments in their order, r what came back, e what the arguments are then.
use Rattle.octets.proofs.Kit.{◌≡◌}
use base.Logic.{SProp, ent, id⊢}
use contract.{Lifetimes.Lfts, Monad.{Fun, fact}}
use denote.{Triple.{Entry.{Args, Res}, Clauses.AtExit}}
use types.Logic.{Logic}
use seplogic.Ra.Ura.{Ura}
use prog.{Memory.Memory, Routine.Routine}
use Rattle.sheet.specs.{Rules.verdict_of, Lookup.{StandsIn, region_of, region_from, user_region_of, user_region_from, property_of, property_from, group_of, group_from}}
use Rattle.cemi.specs.Read.{read_frame}
use Rattle.versions.specs.{Rules.store_rule, Kept.kept_of}
use Rattle.link.specs.Hearing.{own_of, heard_of}
use Rattle.playback.specs.Rules.{refusal_of}
use Rattle.host.specs.{Bus.{sender_of, arrival_of}, Calls.version_of}
use Rattle.host.specs.contracts.kelindap_check as check-fn
use Rattle.host.specs.contracts.kelindap_property as property-fn
use Rattle.host.specs.contracts.kelindap_region as region-fn
use Rattle.host.specs.contracts.kelindap_user_region as user-region-fn
use Rattle.host.specs.contracts.kelindap_group as group-fn
use Rattle.host.specs.contracts.kelindap_trace_check as trace-check-fn
use Rattle.host.specs.contracts.store.kelindap_store_check as store-check-fn
use Rattle.host.specs.contracts.store.kelindap_kept as kept-fn
use Rattle.host.specs.contracts.bus.kelindap_heard as heard-fn
use Rattle.host.specs.contracts.kelindap_version as version-fn

module _ {M : Type 1} {𝓤 : Ura M} (𝓛 : Logic 𝓤) (mem : Memory → SProp 𝓤) (run : Routine → Fun 𝓤) where
  -- a contract entails a fact
  abbrev Entails : SProp 𝓤 → Type 0 → Type 1
  Entails S T = ent 𝓤 S (fact 𝓤 T)

  -- kelindap_check(sheet)
  module _ (κs : Lfts 1) (a : Args check-fn.signature κs) (r : Res check-fn.signature κs) (e : AtExit check-fn.ended κs) where
    pub check_says : Entails ((check-fn.clauses 𝓛 mem run κs a).ensures tt r e) (r ≡ verdict_of a.0.now)
    check_says = id⊢ 𝓤 _

  -- kelindap_property(sheet, object, id)
  module _ (κs : Lfts 1) (a : Args property-fn.signature κs) (r : Res property-fn.signature κs) (e : AtExit property-fn.ended κs) where
    pub property_says :
        Entails ((property-fn.clauses 𝓛 mem run κs a).ensures tt r e)
        (StandsIn a.0.now r (property_of a.0.now a.1.0 a.1.1.0) (property_from a.0.now a.1.0 a.1.1.0))
    property_says = id⊢ 𝓤 _

  -- kelindap_region(sheet, k)
  module _ (κs : Lfts 1) (a : Args region-fn.signature κs) (r : Res region-fn.signature κs) (e : AtExit region-fn.ended κs) where
    pub region_says :
        Entails ((region-fn.clauses 𝓛 mem run κs a).ensures tt r e) (StandsIn a.0.now r (region_of a.0.now a.1.0) (region_from a.0.now a.1.0))
    region_says = id⊢ 𝓤 _

  -- kelindap_user_region(sheet, k)
  module _ (κs : Lfts 1) (a : Args user-region-fn.signature κs) (r : Res user-region-fn.signature κs) (e : AtExit user-region-fn.ended κs) where
    pub user_region_says :
        Entails ((user-region-fn.clauses 𝓛 mem run κs a).ensures tt r e)
        (StandsIn a.0.now r (user_region_of a.0.now a.1.0) (user_region_from a.0.now a.1.0))
    user_region_says = id⊢ 𝓤 _

  -- kelindap_group(sheet, address)
  module _ (κs : Lfts 1) (a : Args group-fn.signature κs) (r : Res group-fn.signature κs) (e : AtExit group-fn.ended κs) where
    pub group_says :
        Entails ((group-fn.clauses 𝓛 mem run κs a).ensures tt r e) (StandsIn a.0.now r (group_of a.0.now a.1.0) (group_from a.0.now a.1.0))
    group_says = id⊢ 𝓤 _

  -- kelindap_trace_check(trace)
  module _ (κs : Lfts 1) (a : Args trace-check-fn.signature κs) (r : Res trace-check-fn.signature κs) (e : AtExit trace-check-fn.ended κs) where
    pub trace_check_says : Entails ((trace-check-fn.clauses 𝓛 mem run κs a).ensures tt r e) (r ≡ refusal_of a.0.now)
    trace_check_says = id⊢ 𝓤 _

  -- kelindap_store_check(store)
  module _ (κs : Lfts 1) (a : Args store-check-fn.signature κs) (r : Res store-check-fn.signature κs) (e : AtExit store-check-fn.ended κs) where
    pub store_check_says : Entails ((store-check-fn.clauses 𝓛 mem run κs a).ensures tt r e) (r ≡ store_rule a.0.now)
    store_check_says = id⊢ 𝓤 _

  -- kelindap_kept(store, k)
  module _ (κs : Lfts 1) (a : Args kept-fn.signature κs) (r : Res kept-fn.signature κs) (e : AtExit kept-fn.ended κs) where
    pub kept_says : Entails ((kept-fn.clauses 𝓛 mem run κs a).ensures tt r e) (r ≡ kept_of a.0.now a.1.0)
    kept_says = id⊢ 𝓤 _

  -- kelindap_heard(link, sheet, frame)
  module _ (κs : Lfts 2) (a : Args heard-fn.signature κs) (r : Res heard-fn.signature κs) (e : AtExit heard-fn.ended κs) where
    pub heard_says :
        Entails ((heard-fn.clauses 𝓛 mem run κs a).ensures tt r e)
        (r ≡ arrival_of (heard_of a.0 (own_of a.1.0.now) a.1.1.0.now) (sender_of (read_frame a.1.1.0.now)))
    heard_says = id⊢ 𝓤 _

  -- kelindap_version()
  module _ (κs : Lfts 0) (a : Args version-fn.signature κs) (r : Res version-fn.signature κs) (e : AtExit version-fn.ended κs) where
    pub version_says : Entails ((version-fn.clauses 𝓛 mem run κs a).ensures tt r e) (r ≡ version_of)
    version_says = id⊢ 𝓤 _
