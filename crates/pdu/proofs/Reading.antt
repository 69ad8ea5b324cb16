-- From what the parts of a read ensure to what reading gives.
use Rattle.octets.proofs.Kit.{ℕ, ◌≤◌, ◌<◌, ◌≡◌, refl, sym, ◌∙◌, ◌⊎◌, inl, inr, Bool, true, false, List, length, lt-ltb, le-ltb}
use Rattle.std.proofs.Common.{Option, Some, None, Result, Ok, Err}
use Rattle.pdu.specs.{Table.{row_of, service_at}, Rules.{code_of, values_at, fits}, Read.{built_of, read_as, read_pdu}, Write.fits_in, declared.{Service.Service, Pdu.Pdu, ReadRefusal.ReadRefusal}}
use Rattle.pdu.specs.declared.ReadRefusal.TheVariants as unread
use Rattle.pdu.specs.declared.Service.TheVariants as svc

-- a PDU built from the bytes has the fields that are in the bytes
built_fits : (k : Service) (s : List ℕ) (n : ℕ) → fits_in (built_of k s) n ≡ fits (row_of k) (values_at (row_of k).items 2 s) n
built_fits svc.GroupValueRead s n = refl
built_fits svc.GroupValueResponse s n = refl
built_fits svc.GroupValueWrite s n = refl
built_fits svc.IndividualAddressWrite s n = refl
built_fits svc.IndividualAddressRead s n = refl
built_fits svc.SerialNumberRead s n = refl
built_fits svc.SerialNumberWrite s n = refl
built_fits svc.DeviceDescriptorRead s n = refl
built_fits svc.PropertyValueRead s n = refl
built_fits svc.PropertyValueWrite s n = refl
built_fits svc.PropertyDescriptionRead s n = refl
built_fits svc.MemoryRead s n = refl
built_fits svc.MemoryWrite s n = refl
built_fits svc.MemoryBitWrite s n = refl
built_fits svc.AuthorizeRequest s n = refl
built_fits svc.KeyWrite s n = refl
built_fits svc.Restart s n = refl
built_fits svc.IndividualAddressResponse s n = refl
built_fits svc.SerialNumberResponse s n = refl
built_fits svc.DeviceDescriptorResponse s n = refl
built_fits svc.PropertyValueResponse s n = refl
built_fits svc.PropertyDescriptionResponse s n = refl
built_fits svc.MemoryResponse s n = refl
built_fits svc.AuthorizeResponse s n = refl
built_fits svc.KeyResponse s n = refl
built_fits svc.UserMemoryRead s n = refl
built_fits svc.UserMemoryResponse s n = refl
built_fits svc.UserMemoryWrite s n = refl

pub parsed :
    (k : Service) (s : List ℕ) (p : Pdu) (b : Bool) → p ≡ built_of k s → b ≡ fits_in p (length s) → b ≡ true → Ok p ≡ read_as k s
parsed k s p b e f t =
    let g : fits (row_of k) (values_at (row_of k).items 2 s) (length s) ≡ true = sym (built_fits k s (length s)) ∙ sym (rw e at f) ∙ t in
    simp (g, e)

pub unfit :
    (k : Service) (s : List ℕ) (p : Pdu) (b : Bool) → p ≡ built_of k s → b ≡ fits_in p (length s) → b ≡ false → Err unread.Fields ≡ read_as k s
unfit k s p b e f t =
    let g : fits (row_of k) (values_at (row_of k).items 2 s) (length s) ≡ false = sym (built_fits k s (length s)) ∙ sym (rw e at f) ∙ t in
    simp g

-- what the code of the bytes names
pub named : (s : List ℕ) (c : ℕ) (f : Option Service) → c ≡ code_of s → f ≡ service_at c → f ≡ service_at (code_of s)
named s c f e g = rw (← e) g

pub wrong_length : (s : List ℕ) → (length s < 2) ⊎ ((2 ≤ length s) × (16 < length s)) → Err unread.Length ≡ read_pdu s
unfolding read_pdu
wrong_length s (inl h) = simp (lt-ltb _ _ h)
wrong_length s (inr h) = simp (le-ltb _ _ h.0, lt-ltb _ _ h.1)

module _ (s : List ℕ) (f : Option Service) (l : 2 ≤ length s) (h : length s ≤ 16) (g : f ≡ service_at (code_of s)) where
  pub by_code : (k : Service) (r : Result Pdu ReadRefusal) → f ≡ Some k → r ≡ read_as k s → r ≡ read_pdu s
  unfolding read_pdu
  by_code k r i j = simp (le-ltb _ _ l, le-ltb _ _ h, ← g, i) j

  pub no_code : f ≡ None → Err unread.Service ≡ read_pdu s
  unfolding read_pdu
  no_code i = simp (le-ltb _ _ l, le-ltb _ _ h, ← g, i)
