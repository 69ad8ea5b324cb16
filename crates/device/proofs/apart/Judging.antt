-- Judging rests on what it reads: the same there, and the same rules or an undisputed request, give the same judgement.
use Rattle.octets.proofs.Kit.{ℕ, ◌+◌, ◌*◌, ◌<◌, ◌≤◌, ◌≡◌, refl, ap, ◌∙◌, ◌⊎◌, inl, inr, Bool, true, false, cond, List, ltb, eqb, length, arith, ltb-true, eqb-false, ne_eqb}
use Rattle.std.proofs.Common.{Option, Some, None, Result, Ok, Err}
use Rattle.pdu.specs.declared.ReadRefusal.{ReadRefusal}
use Rattle.sheet.specs.{Kind.{properties, groups}, Layout.◌of◌, Head.rules_of, Entries.entry, Lookup.index_of, Rules.refusal_of, Agree.AgreeInside, declared.Memory.TheVariants.{Device, User}}
use Rattle.sheet.proofs.alike.{Sames.{count_same, place_same}, SameLookups.{index_same, rank_same, nth_same, range_same}}
use Rattle.sheet.specs.Head as head
use Rattle.sheet.specs.Property as property
use Rattle.pdu.specs.{Read.{read_pdu, data_of}, Rules.code_of, Table.service_at, declared.Service.Service}
use Rattle.pdu.specs.declared.Pdu.{Pdu, TheVariants.{GroupValueRead, GroupValueResponse, GroupValueWrite, IndividualAddressWrite}}
use Rattle.pdu.specs.declared.Pdu.TheVariants.{IndividualAddressRead, SerialNumberRead, SerialNumberWrite, DeviceDescriptorRead, PropertyValueRead, PropertyValueWrite}
use Rattle.pdu.specs.declared.Pdu.TheVariants.{PropertyDescriptionRead, MemoryRead, MemoryWrite, MemoryBitWrite, AuthorizeRequest, KeyWrite, Restart, IndividualAddressResponse}
use Rattle.pdu.specs.declared.Pdu.TheVariants.{SerialNumberResponse, DeviceDescriptorResponse, PropertyValueResponse, PropertyDescriptionResponse, MemoryResponse, AuthorizeResponse}
use Rattle.pdu.specs.declared.Pdu.TheVariants.{KeyResponse, UserMemoryRead, UserMemoryResponse, UserMemoryWrite}
use Rattle.pdu.specs.declared.Service.TheVariants as service
use Rattle.judge.specs.{declared.{Session.Session, Decision.Decision}, Session.{level_in, connectionless}, Modes.reach_of, declared.Reach.{Reach, TheVariants.{PointToPoint, Connected}}}
use Rattle.judge.specs.{Groups.{value_of, flags_at, group_read_of, group_put_of}, Addresses.{address_write_of, address_read_of, serial_read_of, serial_write_of, descriptor_of}}
use Rattle.judge.specs.{Properties.{property_at, property_read_of, property_write_of, described_at, description_of}, Memory.{memory_read_of, memory_write_of, bit_write_of}}
use Rattle.judge.specs.{Keys.{grant_of, authorize_of, restart_of}, Judge.{decide_of, read_of, reached_of, found_of, judge_by, judge_of}}
use Rattle.device.specs.Apart.{Undisputed, restarts, describes}
use Rattle.device.proofs.{due.Taking.same_reach, apart.Unseen.{SameThere, head_same, entry_same, value_same, unseen}}

-- what is decided about entry i is the same if it is where there is such an entry
if_below : (i n : ℕ) (x y z : Decision) → (i < n → x ≡ y) → cond (ltb i n) x z ≡ cond (ltb i n) y z
if_below i n x y z f = go (ltb i n) (λ e. f (ltb-true i n e))
  where
    go : (t : Bool) → (t ≡ true → x ≡ y) → cond t x z ≡ cond t y z
    go true f = f refl
    go false f = refl

-- and of two that stand behind a test, if they are where it fails
if_not : (t : Bool) (x y z : Decision) → (t ≡ false → x ≡ y) → cond t z x ≡ cond t z y
if_not true x y z f = refl
if_not false x y z f = f refl

-- outside connectionless mode the rules take a restart alike
restart_alike :
    (s : List ℕ) (q : Session) (mode group : ℕ) (c : List ℕ) → (mode ≡ connectionless → ⊥) → (t t' : Bool) →
    reached_of s q mode group c (cond t PointToPoint Connected) ≡ reached_of s q mode group c (cond t' PointToPoint Connected)
unfolding reached_of
restart_alike s q mode group c n true true = refl
restart_alike s q mode group c n true false = rw (ne_eqb mode connectionless n)
restart_alike s q mode group c n false true = rw (ne_eqb mode connectionless n)
restart_alike s q mode group c n false false = refl

module _ {s s' : List ℕ} (b : SameThere s s') where
  a : AgreeInside s s'
  a = unseen b tt

  group_read_lem : (address : ℕ) → group_read_of s' address ≡ group_read_of s address
  unfolding group_read_of flags_at value_of
  group_read_lem address =
      let i : ℕ = index_of s groups address in
      rw (index_same a groups address (omega arith), count_same a groups)
      (if_below i _ _ _ _ (λ h. rw (entry_same b groups i (omega arith) h, value_same b i h)))

  group_put_lem : (w address v d : ℕ) → group_put_of w s' address v d ≡ group_put_of w s address v d
  unfolding group_put_of flags_at
  group_put_lem w address v d =
      let i : ℕ = index_of s groups address in
      rw (index_same a groups address (omega arith), count_same a groups)
      (if_below i _ _ _ _ (λ h. rw (entry_same b groups i (omega arith) h)))

  property_at_lem : (object id : ℕ) → property_at s' object id ≡ property_at s object id
  property_at_lem object id = index_same a properties (object * 256 + id) (omega arith)

  property_read_lem : (level object id n t : ℕ) → property_read_of s' level object id n t ≡ property_read_of s level object id n t
  unfolding property_read_of
  property_read_lem level object id n t =
      let i : ℕ = property_at s object id in
      rw (property_at_lem object id, count_same a properties)
      (if_below i _ _ _ _ (λ h. rw (entry_same b properties i (omega arith) h)))

  property_write_lem :
      (level object id n t : ℕ) (d : List ℕ) → property_write_of s' level object id n t d ≡ property_write_of s level object id n t d
  unfolding property_write_of
  property_write_lem level object id n t d =
      let i : ℕ = property_at s object id in
      rw (property_at_lem object id, count_same a properties)
      (if_below i _ _ _ _ (λ h. rw (entry_same b properties i (omega arith) h, place_same a properties i)))

  described : (object id index : ℕ) → described_at s' object id index ≡ described_at s object id index
  unfolding described_at
  described object id index = rw (nth_same a object index, property_at_lem object id)

  description : (object id index : ℕ) → description_of s' object id index ≡ description_of s object id index
  unfolding description_of
  description object id index =
      let i : ℕ = described_at s object id index in
      rw (described object id index, count_same a properties)
      (if_below i _ _ _ _ (λ h. rw (entry_same b properties i (omega arith) h, rank_same a (property.object of entry s properties i) i (omega arith))))

  descriptor : (t : ℕ) → (1 ≤ t → rules_of s' ≡ rules_of s) → descriptor_of s' t ≡ descriptor_of s t
  unfolding descriptor_of
  descriptor t r =
      rw (head_same b head.mask (omega arith))
      (if_not (eqb t 0) _ _ _ (λ e. let n = eqb-false t 0 e in rw (r (omega arith))))

  -- what reads is decided alike, a descriptor type other than 0 under the same rules
  module _ (level group : ℕ) (d : List ℕ) where
    decide_same :
        (p : Pdu) → ((t : ℕ) → p ≡ DeviceDescriptorRead t → 1 ≤ t → rules_of s' ≡ rules_of s) → decide_of s' level group d p ≡ decide_of s level group d p
    unfolding address_write_of address_read_of serial_read_of serial_write_of memory_read_of memory_write_of bit_write_of grant_of authorize_of restart_of
    decide_same GroupValueRead r = group_read_lem group
    decide_same (GroupValueResponse v) r = group_put_lem 4 group v (length d)
    decide_same (GroupValueWrite v) r = group_put_lem 2 group v (length d)
    decide_same (IndividualAddressWrite address) r = rw (head_same b head.flags (omega arith))
    decide_same IndividualAddressRead r = rw (head_same b head.flags (omega arith))
    decide_same (SerialNumberRead serial) r = rw (head_same b head.serial (omega arith))
    decide_same (SerialNumberWrite serial address) r = rw (head_same b head.serial (omega arith))
    decide_same (DeviceDescriptorRead t) r = descriptor t (r t refl)
    decide_same (PropertyValueRead object id n t) r = property_read_lem level object id n t
    decide_same (PropertyValueWrite object id n t) r = property_write_lem level object id n t d
    decide_same (PropertyDescriptionRead object id index) r = description object id index
    decide_same (MemoryRead n address) r = rw (range_same a Device address n)
    decide_same (MemoryWrite n address) r = rw (range_same a Device address n, head_same b head.flags (omega arith))
    decide_same (MemoryBitWrite n address) r = rw (range_same a Device address n, head_same b head.flags (omega arith))
    decide_same (AuthorizeRequest key) r =
        rw (head_same b (head.key 0) (omega arith), head_same b (head.key 1) (omega arith), head_same b (head.key 2) (omega arith))
    decide_same (KeyWrite named key) r = refl
    decide_same Restart r = rw (head_same b head.flags (omega arith))
    decide_same IndividualAddressResponse r = refl
    decide_same (SerialNumberResponse serial domain) r = refl
    decide_same (DeviceDescriptorResponse t) r = refl
    decide_same (PropertyValueResponse object id n t) r = refl
    decide_same (PropertyDescriptionResponse object id index kind maximum access) r = refl
    decide_same (MemoryResponse n address) r = refl
    decide_same (AuthorizeResponse named) r = refl
    decide_same (KeyResponse named) r = refl
    decide_same (UserMemoryRead n address) r = rw (range_same a User address n)
    decide_same (UserMemoryResponse n address) r = refl
    decide_same (UserMemoryWrite n address) r = rw (range_same a User address n, head_same b head.flags (omega arith))

  module _ (q : Session) (mode group : ℕ) (c : List ℕ) (fair : (rules_of s' ≡ rules_of s) ⊎ Undisputed mode c) where
    same_for : (t : ℕ) → read_pdu c ≡ Ok (DeviceDescriptorRead t) → 1 ≤ t → rules_of s' ≡ rules_of s
    same_for t e h = go fair
      where
        go : (rules_of s' ≡ rules_of s) ⊎ Undisputed mode c → rules_of s' ≡ rules_of s
        go (inl r) = r
        go (inr u) = absurd (u (describes t h e))

    read_same : (level : ℕ) (z : Result Pdu ReadRefusal) → read_pdu c ≡ z → read_of s' level group c z ≡ read_of s level group c z
    read_same level (Ok p) e = decide_same level group (data_of p c) p (λ t r. same_for t (e ∙ ap Ok r))
    read_same level (Err n) e = refl

    reach_same :
        (k : Service) → service_at (code_of c) ≡ Some k →
        reached_of s q mode group c (reach_of (rules_of s') k) ≡ reached_of s q mode group c (reach_of (rules_of s) k)
    reach_same k e = go fair (same_reach (rules_of s') (rules_of s) k)
      where
        go : (rules_of s' ≡ rules_of s) ⊎ Undisputed mode c → (reach_of (rules_of s') k ≡ reach_of (rules_of s) k) ⊎ (k ≡ service.Restart)
            → reached_of s q mode group c (reach_of (rules_of s') k) ≡ reached_of s q mode group c (reach_of (rules_of s) k)
        go (inl r) z = rw r
        go (inr u) (inl r) = rw r
        go (inr u) (inr r) =
            rw r
            (restart_alike s q mode group c (λ m. u (restarts m (e ∙ ap Some r))) (eqb (rules_of s') 1) (eqb (rules_of s) 1))

    reached_same : (r : Reach) → reached_of s' q mode group c r ≡ reached_of s q mode group c r
    unfolding reached_of
    reached_same r = rw (read_same (level_in q mode) (read_pdu c) refl)

    found_same : (f : Option Service) → service_at (code_of c) ≡ f → found_of s' q mode group c f ≡ found_of s q mode group c f
    found_same None e = refl
    found_same (Some k) e = reached_same (reach_of (rules_of s') k) ∙ reach_same k e

    -- THE SAME JUDGEMENT, of two sheets that are refused by the same number, or by none
    pub judge_by_lem : (n room : ℕ) → judge_by n room s' q mode group c ≡ judge_by n room s q mode group c
    judge_by_lem n room = rw (found_same (service_at (code_of c)) refl)

    pub judge_same : (room : ℕ) → refusal_of s' ≡ refusal_of s → judge_of room s' q mode group c ≡ judge_of room s q mode group c
    unfolding judge_of
    judge_same room e = ap (λ (n : ℕ). judge_by n room s' q mode group c) e ∙ judge_by_lem (refusal_of s) room
