-- Demand 3 leaves one state: two devices that keep it have the same after every history.
use Rattle.octets.proofs.Kit.{ℕ, ◌+◌, ◌*◌, ◌-◌, ◌<◌, ◌≡◌, sym, ap, ap₂, subst, ◌∙◌, inl, inr, Bool, List, length, get_or, ext_get_or, dec_lt, ℕ_discrete, arith}
use Rattle.octets.proofs.Numbers.{num_one, num_two}
use Rattle.sheet.{specs.{Kind.groups, Entries.{body_at, InBody}}, proofs.rules.Good.{Good, good}}
use Rattle.sheet.specs.Head as head
use Rattle.judge.specs.declared.Session.{Session}
use Rattle.device.specs.{Sessions.session_of, declared.Sessions.Sessions}
use Rattle.events.specs.Events.{Event}
use Rattle.history.specs.{Location.{Location, Place}, Sort.{Sort, is_location, is_group, is_field}, History.First, Keeps.{Device, state_after, Still, Kept, Begins, AllOctets, Keeps}}
use Rattle.history.proofs.places.Standing.{sort, past_contents}

module _ (f : First) (b : Begins f) (h : List Event) (step step' : Device) (k : Kept step f h) (k' : Kept step' f h) where
  abbrev S : List ℕ
  S = (state_after step f h).sheet

  abbrev T : List ℕ
  T = (state_after step' f h).sheet

  g : Good f.sheet
  g = good f.sheet b.accepted

  -- where the address stands, and the flags
  abbrev A : ℕ
  A = (head.address).at

  abbrev F : ℕ
  F = (head.flags).at

  -- the two bytes of the address are known from their number, being bytes
  address_same : (get_or S A 0 ≡ get_or T A 0) × (get_or S (A + 1) 0 ≡ get_or T (A + 1) 0)
  address_same =
      let n : 256 * get_or S A 0 + get_or S (A + 1) 0 ≡ 256 * get_or T A 0 + get_or T (A + 1) 0 =
      omega (arith, num_two S A, num_two T A, k.address, k'.address) in
      (omega (arith, k.octets (A + 1), k'.octets (A + 1)), omega (arith, k.octets (A + 1), k'.octets (A + 1)))

  -- a byte of the head or of an entry
  module _ (p : ℕ) (within : p < length f.sheet) (none : (x : Location) → Place f.sheet x p → ⊥)
      (no_group_lem : (i : ℕ) → InBody f.sheet groups i p → ⊥) where
    still : Still f.sheet p → get_or S p 0 ≡ get_or T p 0
    still q = k.still p q ∙ sym (k'.still p q)

    field_same : Dec (p ≡ F) → Dec (p < A) → Dec (p < A + (head.address).width) → Dec (p ≡ A) → get_or S p 0 ≡ get_or T p 0
    field_same (yes e) c d u = rw e (sym (num_one S F) ∙ k.flags ∙ sym k'.flags ∙ num_one T F)
    field_same (no e) (yes c) d u = still (record { inside = within; location = none; group = no_group_lem; address = inl c; flags = e })
    field_same (no e) (no c) (no d) u =
        still (record { inside = within; location = none; group = no_group_lem; address = inr (omega arith); flags = e })
    field_same (no e) (no c) (yes d) (yes u) = rw u address_same.0
    field_same (no e) (no c) (yes d) (no u) = let v : p ≡ A + 1 = omega arith in rw v address_same.1

  at : (p : ℕ) → p < length f.sheet → Sort f.sheet p → get_or S p 0 ≡ get_or T p 0
  at p l (is_location x q) = k.holds x p q ∙ sym (k'.holds x p q)
  at p l (is_group i q) =
      let j : ℕ = p - body_at f.sheet groups i in
      let e : p ≡ body_at f.sheet groups i + (p - body_at f.sheet groups i) = omega (arith, q.from) in
      let w : InBody f.sheet groups i (body_at f.sheet groups i + (p - body_at f.sheet groups i)) =
      subst (λ (n : ℕ). InBody f.sheet groups i n) e q in
      ap (λ (n : ℕ). get_or S n 0) e
      ∙ k.group i j w
      ∙ sym (k'.group i j w)
      ∙ ap (λ (n : ℕ). get_or T n 0) (sym e)
  at p l (is_field c n) =
      field_same p l n (λ i q. omega (arith, past_contents g q)) (ℕ_discrete p F) (dec_lt p A) (dec_lt p (A + (head.address).width)) (ℕ_discrete p A)

  one_session : (c : ℕ) → session_of (state_after step f h).sessions c ≡ session_of (state_after step' f h).sessions c
  one_session c =
      ap₂ (λ (t : Bool) (n : ℕ). record { opened = t; level = n }) (k.session c ∙ sym (k'.session c)) (k.rights c ∙ sym (k'.rights c))

  one_state : state_after step f h ≡ state_after step' f h
  one_state =
      ap₂ (λ (q : Sessions) (s : List ℕ). record { sessions = q; sheet = s })
      (ap₂ (λ (q r : Session). record { first = q; second = r }) (one_session 0) (one_session 1))
      (ext_get_or 0 S T (k.same ∙ sym k'.same) (λ i l. at i (omega (arith, k.same)) (sort g i (omega (arith, k.same)))))

-- THE STATE AFTER A HISTORY IS ONE
pub pinned :
    (step step' : Device) → Keeps step → Keeps step' → (f : First) (h : List Event) → Begins f → AllOctets h →
    state_after step f h ≡ state_after step' f h
pinned step step' k k' f h b o = one_state f b h step step' (k f h b o) (k' f h b o)
