-- What reading and writing a flat PDU ask. Assumes nothing.
use Rattle.octets.proofs.Kit.{ℕ, zero, suc, ◌+◌, ◌-◌, ◌≤◌, ◌≡◌, refl, sym, ap, ◌∙◌, List, [], ◌∷◌, Bool, true, false, cond, ◌&&◌, none, leb, ltb, arith, length, get_elem?}
use Rattle.octets.proofs.Kit.{length-drop}
use Rattle.std.proofs.Common.{Option, Some, None, Result, Ok, Err}
use Rattle.pdu.specs.declared.WriteRefusal.{WriteRefusal}
use Rattle.pdu.specs.declared.WriteRefusal.TheVariants as unwritten
use Rattle.octets.{specs.Octets.Octets, proofs.Truths.{and_is, at_most_is}}
use Rattle.pdu.specs.{Item.Value, Table.{row_of, services}, Read.{read_pdu, data_at, data_of}, Write.{write_of, write_count, fits_in, writable}, Rules.head_of}
use Rattle.pdu.specs.{declared.{Service.Service, Pdu.Pdu}, Pdus.{service_of, values_of}}
use Rattle.pdu.proofs.{Formed.{formed_says, long_enough}, Sound.sound, promises.Outcomes.read_carries}
use Rattle.tool.specs.{Flat.{laid, meant_as, meant_by, meant_write}, declared.FlatPdu.FlatPdu}

-- the data of a PDU that reads lies in the bytes
pub starts : (b : List ℕ) (p : Pdu) → Octets b → read_pdu b ≡ Ok p → data_at p ≤ length b
starts b p small e =
    let c = read_carries b p small e in
    let f = formed_says (row_of (service_of p)) (sound (service_of p)).form in
    long_enough (row_of (service_of p)).tail (head_of (row_of (service_of p))) (values_of p) (length b) f.tail_ok c.least c.allowed.suited

pub spans :
    (b : List ℕ) (p : Pdu) → Octets b → read_pdu b ≡ Ok p →
    (length b - length (data_of p b) ≡ data_at p) × (length (data_of p b) ≡ length b - data_at p)
unfolding data_of
spans b p small e =
    let h : data_at p ≤ length b = starts b p small e in
    let l : length (data_of p b) ≡ length b - data_at p = length-drop (data_at p) b in
    (omega arith, l)

pub shorter : (b : List ℕ) (p : Pdu) (r : List ℕ) → r ≡ data_of p b → length r ≤ length b
unfolding data_of
shorter b p r e = rw e (omega (arith, length-drop (data_at p) b))

pub laid_at : (k : ℕ) (x : List Value) (a b m n : ℕ) → a ≡ b → m ≡ n → laid k x a m ≡ laid k x b n
laid_at k x a b m n e f = ap (λ (i : ℕ). laid k x i m) e ∙ ap (λ (i : ℕ). laid k x b i) f

-- a kind past the table's end means nothing
past_end : (ks : List Service) (n : ℕ) → length ks ≤ n → get_elem? ks n ≡ none
past_end [] n h = refl
past_end (k ∷ ks) zero h = absurd (omega arith)
past_end (k ∷ ks) (suc n) h = past_end ks n (omega arith)

pub no_kind_lem : (f : FlatPdu) → length services ≤ f.kind → None ≡ meant_by f
unfolding meant_by
no_kind_lem f h = ap (λ o. meant_as o f) (sym (past_end services f.kind h))

-- at most 16 bytes are written
counted : (n : ℕ) (t u : Bool) → (u ≡ true → n ≤ 16) → write_count (cond t (Err unwritten.Room) (cond u (Ok n) (Err unwritten.Fields))) ≤ 16
counted n true u h = omega arith
counted n false true h = h refl
counted n false false h = omega arith

few : (p : Pdu) (d o : List ℕ) → write_count (write_of p d o) ≤ 16
unfolding write_of writable
few p d o =
    let n : ℕ = data_at p + length d in
    counted n (ltb (length o) 16) (leb n 16 && fits_in p n) (λ u. (at_most_is n 16).0 ((and_is (leb n 16) (fits_in p n)).0 u).0)

pub few_meant : (m : Option Pdu) (d o : List ℕ) (w : Result ℕ WriteRefusal) → w ≡ meant_write m d o → write_count w ≤ 16
few_meant (Some p) d o w e = rw e (few p d o)
few_meant None d o w e = rw e (counted 0 (ltb (length o) 16) false (λ u. omega arith))
