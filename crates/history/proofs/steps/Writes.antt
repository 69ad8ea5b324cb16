-- A write that is heard, carried out or denied.
use Rattle.octets.proofs.Kit.{ℕ, ◌≡◌, sym, ap, ◌∙◌, true, List, arith}
use Rattle.pdu.specs.declared.Pdu.{Pdu}
use Rattle.device.specs.{Events.State, Asked.{Asked, Reads, given}, Due.asked}
use Rattle.events.specs.Events.{Event}
use Rattle.history.specs.{Wish.{Wish, Change, change, nothing, wish_of, asks, brings}, Permit.{level_for, allowed, spans}, History.{First, level, content}}
use Rattle.history.specs.{Others.{programming, individual, group_byte}, Keeps.{Begins, Succeeds}}
use Rattle.history.proofs.{spans.Bools.must_fail, promises.Said.said, heard.{Framed.allowed_same, Hearing.{asks_is, brings_is, reads_heard}}, steps.Invariant.{Inv, now_accepted}}
use Rattle.history.proofs.{stored.Means.Means, heard.Meets.level_met, spans.Spans.laid}
use Rattle.history.proofs.steps.Requests.{ends, Ok, Done, met_so, heard_so, left, wrote, writing_same, forbidden, permitted_so}

module _ (f : First) (b : Begins f) (h : List Event) (x : State) (inv : Inv f h x) (mode c g : ℕ) (a out : List ℕ) where
  abbrev pub X : Asked
  X = asked x mode c g a out

  -- the level that the request acts at
  abbrev pub L : ℕ
  L = level_for mode X.session.level

  pub heard_now : (p : Pdu) → Reads X p → (wish_of p ≡ nothing → ⊥) → Ok f h mode c g a out ≡ true
  heard_now p r n =
      heard_so f h mode c g a out x inv
      ∙ reads_heard x mode c g a out (now_accepted inv b) p r n

  -- what is allowed now is what is allowed by the first sheet
  allowed_now :
      (d : List ℕ) (w : Wish) → allowed f.sheet (level_for mode (level f h c)) d w ≡ allowed x.sheet L d w
  allowed_now d w =
      sym (allowed_same inv.means.agree (level_for mode (level f h c)) d w)
      ∙ ap (λ (l : ℕ). allowed x.sheet l d w)
      (level_met mode (said f h c) X.session (λ m. sym (met_so f h mode c g a out x inv m)))

  module _ (p : Pdu) (w : Change) (t : wish_of p ≡ change w) (r : Reads X p) where
    asks_so : asks a ≡ change w
    asks_so = asks_is a p r.reads ∙ t

    allowed_read :
        allowed f.sheet (level_for mode (level f h c)) (brings a) (change w) ≡ allowed x.sheet L (given X p) (change w)
    allowed_read =
        allowed_now (brings a) (change w)
        ∙ ap (λ (d : List ℕ). allowed x.sheet L d (change w)) (brings_is a p r.reads)

    -- IT IS CARRIED OUT
    pub carried_out :
        allowed x.sheet L (given X p) (change w) ≡ true → (n : ℕ) (d s : List ℕ) → Succeeds n →
        Means f.sheet (laid (spans f.sheet (content f h) (given X p) (change w)) (content f h)) (individual f h) (programming f h) (group_byte f h) s →
        Done f h mode c g a out (ends X n d s)
    carried_out ok n d s low m =
        wrote f h mode c g a out x inv w asks_so
        (permitted_so f h mode c g a out (change w) asks_so (heard_now p r (λ e. let z : ◌≡◌ {A = ℕ} 0 1 = cc in omega arith)) (allowed_read ∙ ok))
        n d s (record { writing = rw asks_so tt; outcome = low })
        (rw (brings_is a p r.reads) m)

    -- IT IS DENIED
    pub denied :
        (allowed x.sheet L (given X p) (change w) ≡ true → ⊥) → (n : ℕ) (d : List ℕ) → (Succeeds n → ⊥) →
        Done f h mode c g a out (ends X n d x.sheet)
    denied no_right n d high =
        left f h mode c g a out x inv
        (writing_same f h mode c g a out w asks_so)
        (forbidden f h mode c g a out (change w) asks_so (allowed_read ∙ must_fail _ no_right))
        n d
        (λ z. high z.outcome)
