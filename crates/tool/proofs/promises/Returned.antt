-- What kelindap_write writes with outcome 0, kelindap_read gives back. Assumes nothing.
use Rattle.octets.proofs.Kit.{ℕ, zero, suc, ◌+◌, ◌-◌, ◌≡◌, refl, sym, ap, ◌∙◌, ◌⊎◌, inl, inr, ⊎_elim, Bool, true, false, cond, ◌&&◌, and-eq-true_iff, true≢false, List, [], ◌∷◌, Option, none}
use Rattle.octets.proofs.Kit.{some, Option·none-ne-some, arith, add-zero, eq-eqb, eqb-true, eqb, ltb, length, take, drop, get_elem?, length-drop, take_all}
use Rattle.std.proofs.Common.{Ok, Err}
use Rattle.pdu.specs.declared.WriteRefusal.TheVariants as unwritten
use Rattle.pdu.specs.Item.{Name, Item, low, num, cap, duo, skip, Value, ◌≔◌, the, name_number, same, V6, Address, Serial, Domain, T, Object, Id, N, S, Index, Typ, Maximum, Access, Level, Key}
use Rattle.pdu.specs.{Table.{row_of, services}, Pdus.{service_of, values_of, pdu_of}, Read.{read_pdu, data_at, data_of}, Write.{write_of, write_outcome, write_count}, Allows.Typed}
use Rattle.pdu.{specs.declared.{Service.Service, Pdu.Pdu}, proofs.{Sound.{chosen, sound}, promises.Back.buffer_back}}
use Rattle.pdu.specs.declared.Service.TheVariants as svc
use Rattle.tool.specs.{Flat.{place_in, kind_of, laid, flat_of, flat_read, fields_in, meant_as, meant_by, FlatWrote}, Back.{InC, Has, GivenBack}, declared.FlatPdu.FlatPdu}
use Rattle.tool.specs.declared.FlatWritten.{FlatWritten}

-- the services stand in the order of their kinds
numbered : ℕ → List Service → Bool
numbered m [] = true
numbered m (j ∷ js) = eqb (kind_of j) m && numbered (suc m) js

the_service : Service → Option Service → Service
the_service j none = j
the_service j (some k) = k

same_service : {j k : Service} → some j ≡ some k → j ≡ k
unfolding the_service
same_service {j} e = ap (the_service j) e

in_order : (m : ℕ) (js : List Service) (n : ℕ) (k : Service) → numbered m js ≡ true → get_elem? js n ≡ some k → kind_of k ≡ m + n
unfolding numbered
in_order m [] n k h e = absurd (Option·none-ne-some k e)
in_order m (j ∷ js) zero k h e =
    let q = (and-eq-true_iff (eqb (kind_of j) m) (numbered (suc m) js)).0 h in
    ap kind_of (sym (same_service e)) ∙ eqb-true (kind_of j) m q.0 ∙ sym (add-zero m)
in_order m (j ∷ js) (suc n) k h e =
    let q = (and-eq-true_iff (eqb (kind_of j) m) (numbered (suc m) js)).0 h in
    let r = in_order (suc m) js n k q.1 e in omega arith

kind_at : (n : ℕ) (k : Service) → get_elem? services n ≡ some k → kind_of k ≡ n
unfolding numbered kind_of place_in
kind_at n k e = let r = in_order 0 services n k refl e in omega arith

-- fields laid flat are the fields in it
fields_back : (k : ℕ) (x : List Value) (at n : ℕ) (name : Name) → the (fields_in (laid k x at n)) name ≡ the x name
fields_back k x at n V6 = refl
fields_back k x at n Address = refl
fields_back k x at n Serial = refl
fields_back k x at n Domain = refl
fields_back k x at n T = refl
fields_back k x at n Object = refl
fields_back k x at n Id = refl
fields_back k x at n N = refl
fields_back k x at n S = refl
fields_back k x at n Index = refl
fields_back k x at n Typ = refl
fields_back k x at n Maximum = refl
fields_back k x at n Access = refl
fields_back k x at n Level = refl
fields_back k x at n Key = refl

-- two names of one place name one field
the_same : (x : List Value) (g f : Name) → same g f ≡ true → the x g ≡ the x f
the_same [] g f e = refl
the_same (v ∷ x) g f e = rw (eqb-true (name_number g) (name_number f) e, the_same x g f e)

-- a field of the items is among those chosen of them
pick : (x y : List Value) (g f : Name) → (g ≡ f) ⊎ (the y f ≡ the x f) → (t : Bool) → same g f ≡ t → cond t (the x g) (the y f) ≡ the x f
pick x y g f h true e = the_same x g f e
pick x y g f (inl q) false e = absurd (true≢false (sym (rw q (eq-eqb (name_number f) (name_number f) refl)) ∙ e))
pick x y g f (inr h) false e = h

chosen_more : (x y : List Value) (g f : Name) → (g ≡ f) ⊎ (the y f ≡ the x f) → the (g ≔ the x g ∷ y) f ≡ the x f
chosen_more x y g f h = pick x y g f h (same g f) refl

chosen_has : (is : List Item) (x : List Value) (f : Name) → Has is f → the (chosen is x) f ≡ the x f
chosen_has [] x f h = absurd h
chosen_has (low g m ∷ is) x f h = chosen_more x (chosen is x) g f (⊎_elim inl (λ l. inr (chosen_has is x f l)) h)
chosen_has (num g w ∷ is) x f h = chosen_more x (chosen is x) g f (⊎_elim inl (λ l. inr (chosen_has is x f l)) h)
chosen_has (cap g w m ∷ is) x f h = chosen_more x (chosen is x) g f (⊎_elim inl (λ l. inr (chosen_has is x f l)) h)
chosen_has (duo g i ∷ is) x f h =
    chosen_more x (i ≔ the x i ∷ chosen is x) g f
    (⊎_elim inl (λ l. inr (chosen_more x (chosen is x) i f (⊎_elim inl (λ m. inr (chosen_has is x f m)) l))) h)
chosen_has (skip w ∷ is) x f h = chosen_has is x f h

-- the PDU that a flat one of C's means keeps the widths of its fields
typed : (k : Service) (f : FlatPdu) → InC f → Typed (pdu_of k (fields_in f))
typed svc.GroupValueRead f c = tt
typed svc.GroupValueResponse f c = (tt, tt)
typed svc.GroupValueWrite f c = (tt, tt)
typed svc.IndividualAddressWrite f c = (c.address, tt)
typed svc.IndividualAddressRead f c = tt
typed svc.SerialNumberRead f c = (tt, tt)
typed svc.SerialNumberWrite f c = (tt, (c.address, (tt, tt)))
typed svc.DeviceDescriptorRead f c = (tt, tt)
typed svc.PropertyValueRead f c = (c.object, (c.id, (tt, tt)))
typed svc.PropertyValueWrite f c = (c.object, (c.id, (tt, tt)))
typed svc.PropertyDescriptionRead f c = (c.object, (c.id, (c.index, tt)))
typed svc.MemoryRead f c = (tt, (c.address, tt))
typed svc.MemoryWrite f c = (tt, (c.address, tt))
typed svc.MemoryBitWrite f c = (c.n, (c.address, tt))
typed svc.AuthorizeRequest f c = (tt, (c.key, tt))
typed svc.KeyWrite f c = (c.level, (c.key, tt))
typed svc.Restart f c = tt
typed svc.IndividualAddressResponse f c = tt
typed svc.SerialNumberResponse f c = (tt, (c.domain, (tt, tt)))
typed svc.DeviceDescriptorResponse f c = (tt, tt)
typed svc.PropertyValueResponse f c = (c.object, (c.id, (tt, tt)))
typed svc.PropertyDescriptionResponse f c = (c.object, (c.id, (c.index, (c.typ, (tt, (c.access, tt))))))
typed svc.MemoryResponse f c = (tt, (c.address, tt))
typed svc.AuthorizeResponse f c = (c.level, tt)
typed svc.KeyResponse f c = (c.level, tt)
typed svc.UserMemoryRead f c = (c.n, (c.address, tt))
typed svc.UserMemoryResponse f c = (c.n, (c.address, tt))
typed svc.UserMemoryWrite f c = (c.n, (c.address, tt))

-- a flat PDU of an unknown kind is refused
unknown_refused : (room : ℕ) (t : Bool) → write_outcome (cond t (Err unwritten.Room) (Err unwritten.Fields)) ≡ 0 → ⊥
unknown_refused room true e = omega arith
unknown_refused room false e = omega arith

-- the data, which is what stands from its place on
data_back : (p : Pdu) (b d : List ℕ) → data_of p b ≡ d → take (length b - data_at p) (drop (data_at p) b) ≡ d
unfolding data_of
data_back p b d e = take_all (length b - data_at p) (drop (data_at p) b) (omega (arith, length-drop (data_at p) b)) ∙ e

-- the PDU of a service with the fields of a flat one
abbrev meant : Service → FlatPdu → Pdu
meant k f = pdu_of k (fields_in f)

module _ (f : FlatPdu) (d b : List ℕ) (k : Service) (e : get_elem? services f.kind ≡ some k) where
  -- the PDU that it means, laid flat as it is read
  laid_back : data_of (meant k f) b ≡ d → GivenBack f d b (flat_of (meant k f) b)
  laid_back h =
      record {
        outcome = refl;
        kind = ap kind_of ((sound k).serves (fields_in f)) ∙ kind_at f.kind k e;
        fields = same_field;
        rest = data_back (meant k f) b d h;
      }
    where
      same_field : (j : Service) (name : Name) → get_elem? services f.kind ≡ some j → Has (row_of j).items name → the (fields_in (flat_of (meant k f) b)) name ≡ the (fields_in f) name
      same_field j name q h =
          let s : k ≡ j = same_service (sym e ∙ q) in
          fields_back (kind_of (service_of (meant k f))) (values_of (meant k f)) (data_at (meant k f)) (length b - data_at (meant k f)) name
          ∙ ap (λ (x : List Value). the x name) ((sound k).values (fields_in f))
          ∙ chosen_has (row_of k).items (fields_in f) name (rw s h)

  read_as : read_pdu b ≡ Ok (meant k f) → data_of (meant k f) b ≡ d → GivenBack f d b (flat_read b)
  unfolding flat_read
  read_as r h = rw r (laid_back h)

-- FLAT-BACK: of what a write with outcome 0 leaves in the buffer, as many bytes as counted read to the same kind, the same fields of its row and the same data
pub flat_back :
    (f : FlatPdu) (d o e : List ℕ) (r : FlatWritten) → InC f → FlatWrote (meant_by f) d o r e → r.outcome ≡ 0 →
    GivenBack f d (take r.count e) (flat_read (take r.count e))
unfolding meant_by
flat_back f d o e r c w z = go (get_elem? services f.kind) refl w
  where
    go : (m : Option Service) → get_elem? services f.kind ≡ m → FlatWrote (meant_as m f) d o r e → GivenBack f d (take r.count e) (flat_read (take r.count e))
    go none q w = absurd (unknown_refused (length o) (ltb (length o) 16) (sym (ap (λ (x : FlatWritten). x.outcome) w.result) ∙ z))
    go (some k) q w =
        let n : r.count ≡ write_count (write_of (meant k f) d o) = ap (λ (x : FlatWritten). x.count) w.result in
        let b = buffer_back (meant k f) d o e (write_of (meant k f) d o) (record { result = refl; buffer = w.buffer }) (typed k f c) (sym (ap (λ (x : FlatWritten). x.outcome) w.result) ∙ z) in
        rw n (read_as f d (take (write_count (write_of (meant k f) d o)) e) k q b.0 b.1)
