-- WHAT A SERVED FRAME SAYS THAT IT STORED: every byte outside is as found, and what is no request or was refused has stored nothing. Assumes nothing.
use Rattle.octets.proofs.Kit.{ℕ, ◌+◌, ◌≤◌, ◌≡◌, refl, sym, ap, subst, ◌∙◌, ◌⊎◌, inl, inr, List, length, get_or, replicate, ltb, arith}
use Rattle.octets.{specs.{Octets.Octets, Splice.splice}, proofs.Walks.by_test}
use Rattle.cemi.specs.{Read.fields_in, declared.Fields.Fields}
use Rattle.device.specs.{Changed.{Requested, Outside, changed_of, none}, declared.{Made.Made, Changed.Changed}}
use Rattle.device.proofs.promises.Parts.{kept_outside, none_refused, first_within, second_within}
use Rattle.link.specs.{Hearing.{own_of, heard_of}, Serving.{most, longest, apdu_of, Deed, deed_of, NoRequest, serve_of, ServedFrame}, declared.{Link.Link, Served.Served, Arrived.Arrived}}
use Rattle.link.specs.declared.Arrived.TheVariants.{Request, Connect, Disconnect, Nothing}
use Rattle.link.proofs.promises.{Kept.octets_apdu, Demand1.{effect, done, called}}

-- both parts of a deed in the sheet s, every byte of which outside them is as found
record Told (s : List ℕ) (x : Deed) : Type 0 where
  outside : (i : ℕ) → Outside x.changed i → get_or x.sheet i 0 ≡ get_or s i 0
  none_for : (x.number ≡ 0 → ⊥) → x.changed ≡ none
  refused : 2 ≤ x.outcome → x.changed ≡ none
  first : x.changed.first.offset + x.changed.first.length ≤ length s
  second : x.changed.second.offset + x.changed.second.length ≤ length s

untouched : (s : List ℕ) (x : Deed) → x.sheet ≡ s → x.changed ≡ none → Told s x
untouched s x e n =
    record {
      outside = λ i h. ap (λ (l : List ℕ). get_or l i 0) e;
      none_for = λ h. n;
      refused = λ h. n;
      first = subst (λ (c : Changed). c.first.offset + c.first.length ≤ length s) (sym n) (omega arith);
      second = subst (λ (c : Changed). c.second.offset + c.second.length ≤ length s) (sym n) (omega arith);
    }

module _ (k : Link) (f : Fields) (sequence : ℕ) (a s : List ℕ) (small : Octets s) (bytes : Octets a) where
  -- the request's own, as `device` gives it
  module _ (mode c group : ℕ) where
    abbrev made : Made
    made = record { done = done k s a mode c group small bytes; changed = changed_of most s k.sessions mode c group a }

    abbrev buffer : List ℕ
    buffer = splice (replicate most 0) 0 (effect k s a mode c group small bytes).answer

    asked : Requested k.sessions mode c group a s (replicate most 0) made (effect k s a mode c group small bytes).sheet buffer
    asked = record { call = called k s a mode c group small bytes; changed = refl }

  told : (r : Arrived) → Told s (deed_of k f sequence a s r)
  unfolding deed_of
  told (Request mode c group) =
      let z = (effect k s a mode c group small bytes).sheet in
      let r = asked mode c group in
      record {
        outside = kept_outside k.sessions mode c group a s (replicate most 0) (made mode c group) z (buffer mode c group) r;
        none_for = λ h. absurd (h refl);
        refused = none_refused k.sessions mode c group a s (replicate most 0) (made mode c group) z (buffer mode c group) r;
        first = first_within k.sessions mode c group a s (replicate most 0) (made mode c group) z (buffer mode c group) r;
        second = second_within k.sessions mode c group a s (replicate most 0) (made mode c group) z (buffer mode c group) r;
      }
  told (Connect c) = untouched s _ refl refl
  told (Disconnect c) = untouched s _ refl refl
  told (Nothing n c) = untouched s _ refl refl

other_none : (k : Link) (f : Fields) (sequence : ℕ) (a s : List ℕ) (r : Arrived) → NoRequest r → (deed_of k f sequence a s r).changed ≡ none
unfolding deed_of
other_none k f sequence a s (Request mode c group) h = absurd h
other_none k f sequence a s (Connect c) h = refl
other_none k f sequence a s (Disconnect c) h = refl
other_none k f sequence a s (Nothing n c) h = refl

module _ (k : Link) (sequence : ℕ) (b s o : List ℕ) (r : Served) (s' o' : List ℕ) (call : ServedFrame k sequence b s o r s' o') where
  abbrev d : Deed
  d = serve_of k sequence b s (length o)

  is_told : Told s d
  unfolding serve_of
  is_told =
      by_test (Told s) (ltb (length o) longest) _ _ (λ t. untouched s _ refl refl)
      (λ t. told k (fields_in b) sequence (apdu_of b) s call.sheet_bytes (octets_apdu b call.frame_bytes) (heard_of k (own_of s) b))

  says : r.changed ≡ d.changed
  says = ap (λ (q : Served). q.changed) call.did.result

  -- EVERY BYTE OUTSIDE BOTH PARTS IS AS FOUND
  pub served_outside : (i : ℕ) → Outside r.changed i → get_or s' i 0 ≡ get_or s i 0
  served_outside i h =
      ap (λ (l : List ℕ). get_or l i 0) call.did.sheet ∙ is_told.outside i (subst (λ (c : Changed). Outside c i) says h)

  -- WHAT IS NO EVENT, NO REQUEST, OR WAS REFUSED STORED NOTHING
  pub served_none : (r.number ≡ 0 → ⊥) ⊎ (NoRequest (heard_of k (own_of s) b) ⊎ (2 ≤ r.outcome)) → r.changed ≡ none
  unfolding serve_of
  served_none (inl h) = says ∙ is_told.none_for (λ e. h (ap (λ (q : Served). q.number) call.did.result ∙ e))
  served_none (inr (inl h)) =
      says
      ∙ by_test (λ (x : Deed). x.changed ≡ none) (ltb (length o) longest) _ _ (λ t. refl)
      (λ t. other_none k (fields_in b) sequence (apdu_of b) s (heard_of k (own_of s) b) h)
  served_none (inr (inr h)) = says ∙ is_told.refused (omega (arith, ap (λ (q : Served). q.outcome) call.did.result))

  -- BOTH PARTS LIE IN THE SHEET
  pub served_within :
      (r.changed.first.offset + r.changed.first.length ≤ length s)
      × (r.changed.second.offset + r.changed.second.length ≤ length s)
  served_within = (
    subst (λ (c : Changed). c.first.offset + c.first.length ≤ length s) (sym says) is_told.first,
    subst (λ (c : Changed). c.second.offset + c.second.length ≤ length s) (sym says) is_told.second,
  )
