-- A sheet in the release before, and the accepted one that is it with 2 in byte 0: judging, a request and the button do the same on both.
use Rattle.octets.proofs.Kit.{ℕ, ◌+◌, ◌-◌, ◌≤◌, ◌<◌, ◌≡◌, refl, sym, ap, subst, ◌∙◌, ◌⊎◌, inl, inr, Bool, List, length, get_or, replicate, length-replicate, ext_get_or, dec_lt, ℕ_discrete, arith}
use Rattle.octets.{specs.{Bytes.bytes_of, Splice.splice}, proofs.{Numbers.{num_one, length_bytes}, Splices.splice_outside}}
use Rattle.sheet.specs.{Layout.◌of◌, Head.rules_of, Rules.{Accepted, Old, refusal_of, refusal_before, edition}, Agree.{Agree, AgreeInside}, But.But, Convert.{conversion_of, EditionByte}}
use Rattle.sheet.proofs.{rules.Good.{GoodIn, Good, good, passes}, places.BodyPlaces.after_contents, alike.Buts.{but_sym, run_byte, field_but, splice_but}}
use Rattle.sheet.proofs.{alike.EditionApart.{field_behind, inside, other_good}, promises.{Agrees.both_or_neither, Verdicts.{old_good, refused_none}}}
use Rattle.sheet.proofs.promises.Converting.{edition_apart, now_second, old_byte15, old_rules, converted}
use Rattle.sheet.specs.Head as head
use Rattle.pdu.specs.Read.{read_pdu}
use Rattle.judge.specs.{declared.{Session.Session, Store.Store, Decision.Decision}, Judge.{judge_by, judge_of, data_in}}
use Rattle.judge.specs.declared.Store.TheVariants as store
use Rattle.device.specs.{Carry.{padded, build, bit_at, store_of}, Safe.StoreSafe, Step.{step_by, step_with, step_of}, Events.{bit, pressed, button_sheet}}
use Rattle.device.proofs.{leaves.{Bits.length_build, Stays.{request_agrees, button_agrees}}, calls.Safe.safe}
use Rattle.device.proofs.apart.{StepBut.{StoreSpares, Spares, AlikeBut, bits_same, spares_fewer, step_but}, PastHead.{InHead, past_head}, Unseen.SameThere, Judging.judge_by_lem}

-- u and v are the same but for byte 0, which is b in v, or as in u
pub record Fronted (b : ℕ) (u v : List ℕ) : Type 0 where
  pub others : But EditionByte u v
  pub front : (get_or v 0 0 ≡ b) ⊎ (get_or v 0 0 ≡ get_or u 0 0)

module _ {b : ℕ} {u v : List ℕ} (f : Fronted b u v) where
  -- THE SAME RUN STORED IN BOTH
  pub splice_fronted : (o : ℕ) (ds : List ℕ) → o + length ds ≤ length u → Fronted b (splice u o ds) (splice v o ds)
  splice_fronted o ds h = record { others = splice_but f.others o ds h; front = go (dec_lt 0 o) (dec_lt 0 (o + length ds)) }
    where
      h' : o + length ds ≤ length v
      h' = omega (arith, f.others.long)

      kept : (0 < o) ⊎ (o + length ds ≤ 0) → (get_or (splice v o ds) 0 0 ≡ b) ⊎ (get_or (splice v o ds) 0 0 ≡ get_or (splice u o ds) 0 0)
      kept side = rw (splice_outside v o ds h' 0 side, splice_outside u o ds h 0 side) f.front

      go : Dec (0 < o) → Dec (0 < o + length ds) → (get_or (splice v o ds) 0 0 ≡ b) ⊎ (get_or (splice v o ds) 0 0 ≡ get_or (splice u o ds) 0 0)
      go (yes l) d = kept (inl l)
      go (no l) (yes m) = inr (run_byte v o ds h' 0 (omega arith) m ∙ sym (run_byte u o ds h 0 (omega arith) m))
      go (no l) (no m) = kept (inr (omega arith))

  -- a store
  store_fronted : (d : List ℕ) (k : Store) → StoreSafe u d k → StoreSpares EditionByte k → Fronted b (store_of u d k) (store_of v d k)
  store_fronted d store.Nothing h p = f
  store_fronted d (store.Number at w x) h p = splice_fronted at (bytes_of w x) (omega (arith, length_bytes w x))
  store_fronted d (store.Data z at) h p = splice_fronted at (padded z d) h
  store_fronted d (store.Fill at n x) h p = splice_fronted at (replicate n x) (omega (arith, length-replicate n x))
  store_fronted d (store.Bits at n) h p =
      subst (λ (ds : List ℕ). Fronted b (splice u at (build n (bit_at u at n d))) (splice v at ds)) (sym (bits_same f.others d at n p))
      (splice_fronted at (build n (bit_at u at n d)) (omega (arith, length_build n (bit_at u at n d))))

-- byte 0 as the edition
first_is : (s : List ℕ) → head.edition of s ≡ get_or s 0 0
first_is s = num_one s 0

-- s' IS ACCEPTED, HAS NO USER REGION AND RULES 0, AND s IS IT BUT FOR BYTE 0, which is 1 or 2
pub record Renews (s s' : List ℕ) : Type 0 where
  pub accepted : Accepted s'
  pub others : But EditionByte s' s
  pub least : 1 ≤ get_or s 0 0
  pub most : get_or s 0 0 ≤ 2
  pub none : head.byte15 of s' ≡ 0
  pub early : head.rules of s' ≡ 0

-- an old sheet and its conversion
pub renews : (s : List ℕ) → Old s → Renews s (conversion_of s)
renews s o =
    let g = old_good s o in
    let c = converted s o in
    record {
      accepted = c.accepted;
      others = but_sym c.others;
      least = omega (arith, first_is s, g.own);
      most = omega (arith, first_is s, g.own);
      none = field_but c.others head.byte15 (λ j l e. omega arith) ∙ old_byte15 s o;
      early = field_but c.others head.rules (λ j l e. omega arith) ∙ old_rules s o;
    }

module _ {s s' : List ℕ} (r : Renews s s') where
  g : Good s'
  g = good s' r.accepted

  pub inside_both : AgreeInside s' s
  inside_both = inside g r.others r.none r.early

  -- the release before lets s be
  own_good : GoodIn (head.edition of s) s
  own_good = other_good g r.others r.none r.early (head.edition of s) (omega (arith, first_is s, r.least)) refl

  pub let_be : refusal_before s ≡ 0
  let_be = rw (passes edition (omega (arith, first_is s, r.most)) own_good)

  -- s' is the conversion of s
  pub is_conversion : s' ≡ conversion_of s
  is_conversion = ext_get_or 0 s' (conversion_of s) (sym r.others.long ∙ sym c.long) (λ p l. at p (ℕ_discrete p 0))
    where
      long : head.size ≤ length s
      long = own_good.framed.0

      c : But EditionByte s (conversion_of s)
      c = edition_apart s long

      at : (p : ℕ) → Dec (p ≡ 0) → get_or s' p 0 ≡ get_or (conversion_of s) p 0
      at p (yes e) = rw e (sym (first_is s') ∙ g.own ∙ sym (now_second s long) ∙ first_is (conversion_of s))
      at p (no n) = sym (c.others p n ∙ r.others.others p n)

  -- so it goes on: an accepted sheet that agrees with s', and one that is it but for byte 0, which is as in s or as in the other
  pub again : {t t' : List ℕ} → Agree s' t' → Fronted (get_or s 0 0) t' t → Renews t t'
  again {t} {t'} a f =
      record {
        accepted = ok;
        others = f.others;
        least = (bounds f.front).0;
        most = (bounds f.front).1;
        none = a.by.byte15 ∙ r.none;
        early = a.by.rules ∙ r.early;
      }
    where
      ok : Accepted t'
      ok = (both_or_neither a).0 r.accepted

      bounds : (get_or t 0 0 ≡ get_or s 0 0) ⊎ (get_or t 0 0 ≡ get_or t' 0 0) → (1 ≤ get_or t 0 0) × (get_or t 0 0 ≤ 2)
      bounds (inl e) = (omega (arith, e, r.least), omega (arith, e, r.most))
      bounds (inr e) = let w = (good t' ok).own in (omega (arith, e, w, first_is t'), omega (arith, e, w, first_is t'))

  pub fronted : Fronted (get_or s 0 0) s' s
  fronted = record { others = r.others; front = inl refl }

  -- what judging reads is the same
  seen : SameThere s' s
  seen =
      record {
        long = r.others.long;
        before = λ p l h n. r.others.others p (λ e. omega arith);
        users = inside_both.users;
        values = λ i p h. r.others.others p (λ e. omega (arith, h.from, after_contents g _ i h.kind h.below));
      }

  same_rules : rules_of s ≡ rules_of s'
  unfolding rules_of
  same_rules = field_behind g r.others r.none r.early head.rules (omega arith)

  -- A REQUEST
  module _ (room : ℕ) (q : Session) (mode group : ℕ) (a : List ℕ) where
    abbrev d : List ℕ
    d = data_in (read_pdu a) a

    abbrev k : Decision
    k = judge_of room s' q mode group a

    judged : judge_by (refusal_before s) room s q mode group a ≡ k
    unfolding judge_of
    judged =
        ap (λ (n : ℕ). judge_by n room s q mode group a) (let_be ∙ sym (refused_none s' r.accepted))
        ∙ judge_by_lem seen q mode group a (inl same_rules) (refusal_of s') room

    past : Spares EditionByte d k
    past = spares_fewer {H = InHead} {H' = EditionByte} (λ p e. omega arith) d k (past_head room s' q mode group a)

    -- the same outcome, answer and session
    pub request_same : AlikeBut EditionByte (step_of room s' q mode group a) (step_with (refusal_before s) room s q mode group a)
    unfolding step_of
    request_same =
        subst (λ (z : Decision). AlikeBut EditionByte (step_by s' q d k) (step_by s q d z)) (sym judged)
        (step_but r.others q d k (safe room s' q mode group a) past)

    -- and the sheets after it
    left : Fronted (get_or s 0 0) (store_of (store_of s' d k.first) d k.second) (store_of (store_of s d k.first) d k.second)
    left =
        let ok = safe room s' q mode group a in
        store_fronted (store_fronted fronted d k.first ok.first past.0) d k.second ok.second past.1

    pub request_renews : Renews (step_with (refusal_before s) room s q mode group a).sheet (step_of room s' q mode group a).sheet
    request_renews =
        again (request_agrees (record { room = room; sheet = s'; session = q; mode = mode; group = group; apdu = a }) r.accepted)
        (subst (λ (z : Decision). Fronted (get_or s 0 0) (step_of room s' q mode group a).sheet (step_by s q d z).sheet) (sym judged) (unfold step_of step_by in left))

  -- THE BUTTON
  module _ (on : Bool) where
    abbrev new : ℕ
    new = head.flags of s' - head.programming s' + bit on

    pressed_fronted : Fronted (get_or s 0 0) (pressed s' on) (pressed s on)
    unfolding pressed
    pressed_fronted =
        rw (field_behind g r.others r.none r.early head.flags (omega arith))
        (splice_fronted fronted (head.flags).at (bytes_of 1 new) (omega (arith, length_bytes 1 new, g.framed)))

    pub press_renews : Renews (pressed s on) (pressed s' on)
    press_renews = again (subst (Agree s') is_pressed (button_agrees s' on r.accepted)) pressed_fronted
      where
        is_pressed : button_sheet s' on ≡ pressed s' on
        is_pressed = unfold button_sheet in rw r.accepted
