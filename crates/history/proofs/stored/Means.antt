-- What a sheet means, its places being those of the first sheet f: what the locations, the address, the flags and the group objects hold. And what each kind of store makes of it.
use Rattle.octets.proofs.Kit.{ℕ, ◌+◌, ◌/◌, ◌%◌, ◌^◌, ◌<◌, ◌≤◌, ◌≡◌, sym, ap, subst, ◌∙◌, ◌⊎◌, inl, inr, cond, List, [], ◌∷◌, length, get_or, ℕ_discrete, arith}
use Rattle.octets.{specs.{Bytes.{num_at, bytes_of}, Splice.splice}, proofs.{Numbers.{num_same, length_bytes}, Splices.{splice_in, splice_outside, splice_num, splice_num_outside}}}
use Rattle.sheet.{specs.{Kind.groups, Layout.{Field, ◌of◌}, Entries.{count, body_at, body_end, InBody}, Agree.Agree, Stores.{Inside, Fit}}, proofs.rules.Good.{Good, accepted}}
use Rattle.sheet.proofs.{promises.{Agrees.{agree_trans, kept}, Stores.{body_store, address_store, flags_store}}, places.BodyPlaces.{within, disjoint}}
use Rattle.sheet.proofs.alike.Sames.{count_same, at_same, end_same}
use Rattle.sheet.specs.Head as head
use Rattle.device.{specs.Octets.Octets, proofs.leaves.Octet.{octets_bytes, octets_splice}}
use Rattle.history.specs.{Location.{Location, Place}, Span.{Span, has, put}, Keeps.Still}
use Rattle.history.proofs.{places.Standing.{no_group_lem, place_after, past_contents}, spans.Spans.laid, stored.Stored.{Run, away, stored, spared}}

-- the locations hold c, the address is adr, programming mode is prog, byte j of group object i is grp i j, and all else is as at first
pub record Means (f : List ℕ) (c : Location → ℕ) (adr prog : ℕ) (grp : ℕ → ℕ → ℕ) (s : List ℕ) : Type 0 where
  pub agree : Agree f s
  pub octets : Octets s
  pub holds : (x : Location) (p : ℕ) → Place f x p → get_or s p 0 ≡ c x
  pub still : (p : ℕ) → Still f p → get_or s p 0 ≡ get_or f p 0
  pub address : head.address of s ≡ adr
  pub programming : head.programming s ≡ prog
  pub verify : head.verify s ≡ head.verify f
  pub group :
      (i j : ℕ) → InBody f groups i (body_at f groups i + j) → get_or s (body_at f groups i + j) 0 ≡ grp i j

-- one byte
one_byte : (v : ℕ) → v ≤ 3 → v ∷ [] ≡ bytes_of 1 v
unfolding bytes_of
one_byte v h = ap (λ (n : ℕ). n ∷ []) (let e : v ≡ v % 256 = omega arith in e)

module _ {f : List ℕ} (g : Good f) {c : Location → ℕ} {adr prog : ℕ} {grp : ℕ → ℕ → ℕ} {s : List ℕ} (m : Means f c adr prog grp s) where
  fine : Good s
  fine = kept g m.agree

  pub long : head.size ≤ length s
  long = omega (arith, fine.framed)

  -- A SPAN
  pub store_span :
      (p : Span) (o : ℕ) (ds : List ℕ) → o + length ds ≤ length s → Run f p o ds → Agree s (splice s o ds) → Octets ds →
      Means f (laid (p ∷ []) c) adr prog grp (splice s o ds)
  store_span p o ds room run a b =
      record {
        agree = agree_trans m.agree a;
        octets = octets_splice s o ds room m.octets b;
        holds = λ x q h. stored g s p o ds room run x q h ∙ ap (λ (n : ℕ). cond (has p x) (put p x) n) (m.holds x q h);
        still = λ q h. spare q h.location ∙ m.still q h;
        address = early (head.address).at (head.address).width (omega arith) ∙ m.address;
        programming = ap (λ (n : ℕ). n % 2) (early (head.flags).at (head.flags).width (omega arith)) ∙ m.programming;
        verify = ap (λ (n : ℕ). n / 2 % 2) (early (head.flags).at (head.flags).width (omega arith)) ∙ m.verify;
        group = λ i j h. spare _ (λ x q. no_group_lem g q h) ∙ m.group i j h;
      }
    where
      spare : (q : ℕ) → ((x : Location) → Place f x q → ⊥) → get_or (splice s o ds) q 0 ≡ get_or s q 0
      spare = spared g s p o ds room run

      early : (q w : ℕ) → q + w ≤ (head.key 0).at → num_at (splice s o ds) q w ≡ num_at s q w
      early q w h =
          num_same (splice s o ds) s q q w (λ i l. spare (q + i) (λ x k. omega (arith, place_after g k)))

  -- A NUMBER OF THE HEAD, before the keys
  module _ (n : Field) (v : ℕ) (low : v < 256 ^ n.width) (early : n.at + n.width ≤ (head.key 0).at) where
    abbrev New : List ℕ
    New = splice s n.at (bytes_of n.width v)

    size : length (bytes_of n.width v) ≡ n.width
    size = length_bytes n.width v

    room : n.at + length (bytes_of n.width v) ≤ length s
    room = omega (arith, size, long)

    it_is : n of New ≡ v
    it_is = splice_num s n.at n.width v (omega (arith, long)) low

    other_field : (k : Field) → (k.at + k.width ≤ n.at) ⊎ (n.at + n.width ≤ k.at) → k of New ≡ k of s
    other_field k (inl h) = splice_num_outside s n.at _ room k.at k.width (inl h)
    other_field k (inr h) = splice_num_outside s n.at _ room k.at k.width (inr (omega (arith, size)))

    off : (p : ℕ) → (p < n.at) ⊎ (n.at + n.width ≤ p) → get_or New p 0 ≡ get_or s p 0
    off p (inl h) = splice_outside s n.at _ room p (inl h)
    off p (inr h) = splice_outside s n.at _ room p (inr (omega (arith, size)))

    store_number :
        Agree s New → ((p : ℕ) → Still f p → (p < n.at) ⊎ (n.at + n.width ≤ p)) → {adr' prog' : ℕ} →
        head.address of New ≡ adr' → head.programming New ≡ prog' → head.verify New ≡ head.verify f → Means f c adr' prog' grp New
    store_number agrees elsewhere addressed programmed verified =
        record {
          agree = agree_trans m.agree agrees;
          octets = octets_splice s n.at _ room m.octets (octets_bytes n.width v);
          holds = λ x p h. off p (inr (omega (arith, place_after g h))) ∙ m.holds x p h;
          still = λ p h. off p (elsewhere p h) ∙ m.still p h;
          address = addressed;
          programming = programmed;
          verify = verified;
          group = λ i j h. off _ (inr (omega (arith, past_contents g h))) ∙ m.group i j h;
        }

  -- NEW FLAGS, verify as it was
  pub store_flags :
      (v : ℕ) → v ≤ 3 → v / 2 % 2 ≡ head.verify f → Means f c adr (v % 2) grp (splice s (head.flags).at (bytes_of 1 v))
  store_flags v low e =
      let l : v < 256 ^ 1 = omega arith in
      let k : (head.flags).at + (head.flags).width ≤ (head.key 0).at = omega arith in
      let new = it_is head.flags v l k in
      store_number head.flags v l k
      (subst (λ (ds : List ℕ). Agree s (splice s (head.flags).at ds)) (one_byte v low) (flags_store (accepted fine) v low))
      (λ p h. away (head.flags).at (head.flags).width p (λ a b. h.flags (omega arith)))
      (other_field head.flags v l k head.address (inr (omega arith)) ∙ m.address)
      (ap (λ (n : ℕ). n % 2) new)
      (ap (λ (n : ℕ). n / 2 % 2) new ∙ e)

  -- A NEW ADDRESS
  pub store_address : (v : ℕ) → v < 65536 → Means f c v prog grp (splice s (head.address).at (bytes_of 2 v))
  store_address v low =
      let k : (head.address).at + (head.address).width ≤ (head.key 0).at = omega arith in
      let flags = other_field head.address v low k head.flags (inl (omega arith)) in
      store_number head.address v low k
      (address_store (accepted fine) (bytes_of 2 v) (length_bytes 2 v))
      (λ p h. h.address)
      (it_is head.address v low k)
      (ap (λ (n : ℕ). n % 2) flags ∙ m.programming)
      (ap (λ (n : ℕ). n / 2 % 2) flags ∙ m.verify)

  -- A GROUP VALUE
  module _ (i : ℕ) (below : i < count f groups) (ds : List ℕ) (size : body_at f groups i + length ds ≡ body_end f groups i) where
    inside : (p : ℕ) → body_at f groups i ≤ p → p < body_at f groups i + length ds → InBody f groups i p
    inside p a b = record { kind = omega arith; below = below; from = a; to = omega arith }

    pub store_group :
        (new : ℕ → ℕ → ℕ) → ((j : ℕ) → j < length ds → new i j ≡ get_or ds j 0) → ((k j : ℕ) → k < count f groups → (k ≡ i → ⊥) → new k j ≡ grp k j) →
        Fit s groups i ds → Octets ds → Means f c adr prog new (splice s (body_at f groups i) ds)
    store_group new here there fit b =
        record {
          agree = agree_trans m.agree (body_store (accepted fine) groups i o ds lies fit);
          octets = octets_splice s o ds room m.octets b;
          holds = λ x p h. off p (λ k. no_group_lem g h k) ∙ m.holds x p h;
          still = λ p h. off p (h.group i) ∙ m.still p h;
          address = early (head.address).at (head.address).width (omega arith) ∙ m.address;
          programming = ap (λ (n : ℕ). n % 2) (early (head.flags).at (head.flags).width (omega arith)) ∙ m.programming;
          verify = ap (λ (n : ℕ). n / 2 % 2) (early (head.flags).at (head.flags).width (omega arith)) ∙ m.verify;
          group = λ k j h. at k j h (ℕ_discrete k i);
        }
      where
        o : ℕ
        o = body_at f groups i

        room : o + length ds ≤ length s
        room = omega (arith, size, within g groups i (omega arith) below, m.agree.long)

        lies : Inside s groups i o (length ds)
        lies =
            record {
              kind = omega arith;
              below = omega (arith, count_same m.agree groups);
              from = omega (arith, at_same m.agree groups i (omega arith) below);
              to = omega (arith, size, end_same m.agree groups i (omega arith) below);
            }

        off : (p : ℕ) → (InBody f groups i p → ⊥) → get_or (splice s o ds) p 0 ≡ get_or s p 0
        off p h = splice_outside s o ds room p (away o (length ds) p (λ a b. h (inside p a b)))

        early : (p w : ℕ) → p + w ≤ (head.key 0).at → num_at (splice s o ds) p w ≡ num_at s p w
        early p w h =
            num_same (splice s o ds) s p p w (λ k l. off (p + k) (λ q. omega (arith, past_contents g q)))

        at : (k j : ℕ) → InBody f groups k (body_at f groups k + j) → Dec (k ≡ i) → get_or (splice s o ds) (body_at f groups k + j) 0 ≡ new k j
        at k j h (yes e) =
            let z : body_at f groups k ≡ o = ap (body_at f groups) e in
            let w : body_end f groups k ≡ body_end f groups i = ap (body_end f groups) e in
            let l : j < length ds = omega (arith, h.to, size) in
            ap (λ (n : ℕ). get_or (splice s o ds) (n + j) 0) z
            ∙ splice_in s o ds room j l
            ∙ sym (here j l)
            ∙ ap (λ (n : ℕ). new n j) (sym e)
        at k j h (no e) =
            off _ (λ q. e (disjoint g groups k groups i _ h q).1) ∙ m.group k j h ∙ sym (there k j h.below e)
