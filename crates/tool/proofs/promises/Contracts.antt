-- THE CONTRACT OF EACH CALL of include/kelindap_pdu.h and include/kelindap_frame.h, as it stands at its function, with the function's arguments in their places.
-- `a` are a function's arguments in their order, r what came back, e what the arguments are then.
use Rattle.octets.proofs.Kit.{◌≡◌}
use base.Logic.{SProp, ent, id⊢}
use contract.{Lifetimes.Lfts, Monad.{Fun, fact}}
use denote.{Triple.{Entry.{Args, Res}, Clauses.AtExit}}
use types.Logic.{Logic}
use seplogic.Ra.Ura.{Ura}
use prog.{Memory.Memory, Routine.Routine}
use Rattle.octets.specs.Octets.{ReadFrom}
use Rattle.tool.specs.{Flat.{flat_read, meant_by, FlatWrote, version_of}, FlatFrame.{flat_frame, FrameWrote}, Points.{flat_point_read, FlatPut}}
use Rattle.tool.specs.contracts.kelindap_read as read-fn
use Rattle.tool.specs.contracts.kelindap_write as write-fn
use Rattle.tool.specs.contracts.kelindap_pdu_version as version-fn
use Rattle.tool.specs.contracts.kelindap_frame_read as frame-read-fn
use Rattle.tool.specs.contracts.kelindap_frame_write as frame-write-fn
use Rattle.tool.specs.contracts.datapoints.kelindap_point_read as point-read-fn
use Rattle.tool.specs.contracts.datapoints.kelindap_point_write as point-write-fn

module _ {M : Type 1} {𝓤 : Ura M} (𝓛 : Logic 𝓤) (mem : Memory → SProp 𝓤) (run : Routine → Fun 𝓤) where
  -- a contract entails a fact
  abbrev Entails : SProp 𝓤 → Type 0 → Type 1
  Entails S T = ent 𝓤 S (fact 𝓤 T)

  -- kelindap_read(apdu)
  module _ (κs : Lfts 1) (a : Args read-fn.signature κs) (r : Res read-fn.signature κs) (e : AtExit read-fn.ended κs) where
    pub read_says : Entails ((read-fn.clauses 𝓛 mem run κs a).ensures tt r e) (ReadFrom a.0.now r (flat_read a.0.now))
    read_says = id⊢ 𝓤 _

  -- kelindap_write(pdu, data, out)
  module _ (κs : Lfts 2) (a : Args write-fn.signature κs) (r : Res write-fn.signature κs) (e : AtExit write-fn.ended κs) where
    pub write_says : Entails ((write-fn.clauses 𝓛 mem run κs a).ensures tt r e) (FlatWrote (meant_by a.0) a.1.0.now a.1.1.0.now r e.1.1.0.now)
    write_says = id⊢ 𝓤 _

  -- kelindap_pdu_version()
  module _ (κs : Lfts 0) (a : Args version-fn.signature κs) (r : Res version-fn.signature κs) (e : AtExit version-fn.ended κs) where
    pub version_says : Entails ((version-fn.clauses 𝓛 mem run κs a).ensures tt r e) (r ≡ version_of)
    version_says = id⊢ 𝓤 _

  -- kelindap_frame_read(frame)
  module _ (κs : Lfts 1) (a : Args frame-read-fn.signature κs) (r : Res frame-read-fn.signature κs) (e : AtExit frame-read-fn.ended κs) where
    pub frame_read_says : Entails ((frame-read-fn.clauses 𝓛 mem run κs a).ensures tt r e) (ReadFrom a.0.now r (flat_frame a.0.now))
    frame_read_says = id⊢ 𝓤 _

  -- kelindap_frame_write(frame, info, apdu, out)
  module _ (κs : Lfts 3) (a : Args frame-write-fn.signature κs) (r : Res frame-write-fn.signature κs) (e : AtExit frame-write-fn.ended κs) where
    pub frame_write_says :
        Entails ((frame-write-fn.clauses 𝓛 mem run κs a).ensures tt r e)
        (FrameWrote a.0 a.1.0.now a.1.1.0.now a.1.1.1.0.now r e.1.1.1.0.now)
    frame_write_says = id⊢ 𝓤 _

  -- kelindap_point_read(type, bytes)
  module _ (κs : Lfts 1) (a : Args point-read-fn.signature κs) (r : Res point-read-fn.signature κs) (e : AtExit point-read-fn.ended κs) where
    pub point_read_says : Entails ((point-read-fn.clauses 𝓛 mem run κs a).ensures tt r e) (ReadFrom a.1.0.now r (flat_point_read a.0 a.1.0.now))
    point_read_says = id⊢ 𝓤 _

  -- kelindap_point_write(point, out)
  module _ (κs : Lfts 1) (a : Args point-write-fn.signature κs) (r : Res point-write-fn.signature κs) (e : AtExit point-write-fn.ended κs) where
    pub point_write_says : Entails ((point-write-fn.clauses 𝓛 mem run κs a).ensures tt r e) (FlatPut a.0 a.1.0.now r e.1.0.now)
    point_write_says = id⊢ 𝓤 _
