-- Property writes, carried out and denied.
use Rattle.octets.proofs.Kit.{ℕ, ◌+◌, ◌*◌, ◌-◌, ◌<◌, ◌≤◌, max, ◌≡◌, refl, sym, ap, subst, ◌∙◌, List, [], ◌∷◌, length, get_or, replicate, length-replicate, get_or-replicate, arith, ne_eqb}
use Rattle.octets.{specs.{Bytes.bytes_of, Splice.splice}, proofs.Numbers.{length_bytes, bytes_zero}}
use Rattle.sheet.specs.{Kind.properties, Layout.◌of◌, Entries.{count, place, entry, body_at, body_end}, Agree.Agree, Rules.entry_demands, Places.PropertyWith, Stores.Inside}
use Rattle.sheet.proofs.{rules.Good.accepted, promises.Agrees.kept, places.BodyPlaces.inside_within, alike.Sames.{count_same, place_same, property_same, at_same, end_same}}
use Rattle.sheet.proofs.{places.Standing.place_in, promises.{Counts.count_store, Stores.body_store}}
use Rattle.sheet.specs.Property as property
use Rattle.pdu.specs.declared.Pdu.{Pdu, TheVariants.PropertyValueWrite}
use Rattle.device.specs.{Octets.Octets, Events.State, Asked.{Asked, Reads, given}, Due.asked, PropertiesDue.{Elements, element_at, zeroed, Writable, WriteAllowed}}
use Rattle.device.proofs.leaves.Octet.{octets_bytes, octets_data}
use Rattle.device.specs.PropertiesDue as properties-due
use Rattle.events.specs.Events.{Event}
use Rattle.history.specs.{Location.{Location, body}, Span.Span, Wish.{change, write_property}, Permit.{count_to, spans}, History.{First, content}}
use Rattle.history.specs.{Others.{programming, individual, group_byte}, Keeps.{Begins, Succeeds}}
use Rattle.history.proofs.{spans.RequestFields.property_id, heard.Framed.is_same, steps.Invariant.{Inv, fine, now}, stored.Means.{Means, store_span}, heard.Permits.property_is}
use Rattle.history.proofs.{stored.PropertyRun.{counter_run, body_run, elements_fit, entry_for_lem}, steps.{CountNow.count_now, Requests.{ends, Done}}, spans.Spans.laid}
use Rattle.history.proofs.steps.Writes.{carried_out, denied}

module _ (f : First) (b : Begins f) (h : List Event) (x : State) (inv : Inv f h x) (mode c g : ℕ) (a out : List ℕ) (octets : Octets a) where
  abbrev R : Asked
  R = asked x mode c g a out

  -- what is written to a property, as the history has it
  abbrev P : ℕ → ℕ → ℕ → ℕ → Pdu
  P object id n z = PropertyValueWrite object id n z

  abbrev Spans : ℕ → ℕ → ℕ → ℕ → List Span
  Spans object id n z =
      spans f.sheet (content f h) (given R (P object id n z)) (change (write_property object id n z))

  abbrev Holds : (Location → ℕ) → List ℕ → Type 0
  Holds c s = Means f.sheet c (individual f h) (programming f h) (group_byte f h) s

  -- denied
  pub property_denied :
      (object id n z : ℕ) → Reads R (P object id n z) → (WriteAllowed R object id n z (given R (P object id n z)) → ⊥) →
      (k : ℕ) (answer : List ℕ) → (Succeeds k → ⊥) →
      Done f h mode c g a out (ends R k answer x.sheet)
  property_denied object id n z r none k answer high =
      denied f b h x inv mode c g a out (P object id n z) (write_property object id n z) refl r
      (λ e.
      none
      ((property_is R (now inv b) object id n z (given R (P object id n z)) inv.means.octets (property_id a octets r.reads)).0 e))
      k answer high

  module _ (object id i : ℕ) (w : Writable R object id i) where
    is : PropertyWith f.sheet object id i
    is = is_same inv.means.agree w.found

    -- A NEW COUNT in a sheet that has the places of the first
    count_stored :
        (c : ℕ) (k : Location → ℕ) (s : List ℕ) → Holds k s → c ≤ property.maximum of entry f.sheet properties i →
        Holds (laid (count_to object id c ∷ []) k) (splice s (place x.sheet properties i + (property.count).at) (bytes_of 2 c))
    count_stored c k s m low =
        let now-good = kept (fine inv b) m.agree in
        let there : i < count s properties = omega (arith, is.there, count_same m.agree properties) in
        let l : c ≤ property.maximum of entry s properties i =
        rw (property_same m.agree i property.maximum is.there (omega arith) (omega arith)) low in
        let agrees : Agree s (splice s (place f.sheet properties i + (property.count).at) (bytes_of 2 c)) =
        rw (place_same m.agree properties i) at (count_store now-good i c there l) in
        rw (place_same inv.means.agree properties i)
        (store_span (fine inv b) m (count_to object id c) (place f.sheet properties i + (property.count).at) (bytes_of 2 c)
        (omega (arith, length_bytes 2 c, place_in f.sheet properties i (omega arith) is.there, (fine inv b).framed, m.agree.long))
        (counter_run (fine inv b) is c)
        agrees
        (octets_bytes 2 c))

    -- BYTES FOR m ELEMENTS of its body, after the first t
    elements_stored :
        (m t o : ℕ) (ds : List ℕ) (give : ℕ → ℕ) → ((j : ℕ) → j < m * property.element of entry f.sheet properties i → give j ≡ get_or ds j 0) →
        t + m ≤ property.maximum of entry f.sheet properties i → length ds ≡ m * property.element of entry f.sheet properties i → Octets ds →
        o ≡ body_at f.sheet properties i + t * property.element of entry f.sheet properties i → (k : Location → ℕ) (s : List ℕ) → Holds k s →
        Holds
        (laid
        (record {
          from = body object id (t * property.element of entry f.sheet properties i);
          long = m * property.element of entry f.sheet properties i;
          give = give;
        } ∷
        [])
        k)
        (splice s o ds)
    unfolding body_end body_at
    elements_stored m t o ds give gives high long bytes e k s means =
        let now-good = kept (fine inv b) means.agree in
        let fit = elements_fit t m (property.element of entry f.sheet properties i) (property.maximum of entry f.sheet properties i) high in
        let inside : Inside s properties i o (length ds) =
        record {
          kind = omega arith;
          below = omega (arith, is.there, count_same means.agree properties);
          from = omega (arith, at_same means.agree properties i (omega arith) is.there);
          to = omega (arith, end_same means.agree properties i (omega arith) is.there, fit);
        } in
        store_span (fine inv b) means _ o ds
        (inside_within now-good inside)
        (rw e (body_run (fine inv b) is m t ds give gives long high))
        (body_store (accepted now-good) properties i o ds inside (λ q. absurd (omega arith)))
        bytes

    -- CLEARED
    pub property_cleared :
        Reads R (P object id 1 0) → given R (P object id 1 0) ≡ 0 ∷ 0 ∷ [] → (k : ℕ) (answer : List ℕ) → Succeeds k →
        Done f h mode c g a out
        (ends R k answer (splice x.sheet (place x.sheet properties i + (property.count).at) (0 ∷ 0 ∷ [])))
    unfolding spans bytes_of
    property_cleared r e k answer low =
        carried_out f b h x inv mode c g a out (P object id 1 0) (write_property object id 1 0) refl r
        ((property_is R (now inv b) object id 1 0 (given R (P object id 1 0)) inv.means.octets (property_id a octets r.reads)).1 (properties-due.of_count i w refl refl e))
        k answer _ low
        (count_stored 0 (content f h) x.sheet inv.means (omega arith))

    -- WRITTEN
    module _ (n z : ℕ) (d : List ℕ) (r : Reads R (P object id n z)) (e : d ≡ given R (P object id n z))
        (el : Elements (property.maximum of entry x.sheet properties i) n z) (size : length d ≡ n * property.element of entry x.sheet properties i) where
      abbrev S : List ℕ
      S = entry x.sheet properties i

      element_same : property.element of S ≡ property.element of entry f.sheet properties i
      element_same = property_same inv.means.agree i property.element is.there (omega arith) (omega arith)

      maximum_same : property.maximum of S ≡ property.maximum of entry f.sheet properties i
      maximum_same = property_same inv.means.agree i property.maximum is.there (omega arith) (omega arith)

      -- the elements that are jumped: zeros; and those that the data are for
      Zeros : Span
      Zeros =
          let size = property.element of entry f.sheet properties i in
          let c = property.count of S in
          record { from = body object id (c * size); long = (z - 1 - c) * size; give = λ j. 0 }

      Elems : Span
      Elems =
          let size = property.element of entry f.sheet properties i in
          record { from = body object id ((z - 1) * size); long = n * size; give = λ j. get_or d j 0 }

      counted_low : property.count of S ≤ property.maximum of S
      unfolding entry_demands
      counted_low = omega (arith, (now inv b).entries properties i (omega arith) w.found.there)

      at_first_lem : (t : ℕ) → element_at S t ≡ body_at f.sheet properties i + (t - 1) * property.element of entry f.sheet properties i
      unfolding body_at
      at_first_lem t =
          rw (property_same inv.means.agree i property.offset is.there (omega arith) (omega arith), element_same)

      zeros_stored : Holds (laid (Zeros ∷ []) (content f h)) (zeroed x.sheet S z)
      unfolding Zeros
      zeros_stored =
          let m : ℕ = z - 1 - property.count of S in
          let ds : List ℕ = replicate (m * property.element of S) 0 in
          let c : property.count of S + 1 - 1 ≡ property.count of S = omega arith in
          elements_stored m (property.count of S) (element_at S (property.count of S + 1)) ds (λ j. 0)
          (λ j l. sym (get_or-replicate (m * property.element of S) j 0 0 (rw element_same l)))
          (omega (arith, counted_low, el.start, el.some, el.end, maximum_same))
          (length-replicate {A = ℕ} (m * property.element of S) 0 ∙ ap (λ (q : ℕ). m * q) element_same)
          (subst Octets (bytes_zero (m * property.element of S)) (octets_bytes (m * property.element of S) 0))
          (at_first_lem (property.count of S + 1) ∙ ap (λ (t : ℕ). body_at f.sheet properties i + t * property.element of entry f.sheet properties i) c)
          (content f h) x.sheet inv.means

      data_stored : Holds (laid (Elems ∷ Zeros ∷ []) (content f h)) (splice (zeroed x.sheet S z) (element_at S z) d)
      unfolding Elems
      data_stored =
          elements_stored n (z - 1) (element_at S z) d (λ j. get_or d j 0) (λ j l. refl)
          (omega (arith, el.start, el.some, el.end, maximum_same))
          (rw element_same at size)
          (rw e (octets_data (P object id n z) a octets))
          (at_first_lem z)
          _ _ zeros_stored

      -- the new count
      New : ℕ
      New = max (property.count of S) (z + n - 1)

      spans_are : Spans object id n z ≡ count_to object id New ∷ Elems ∷ Zeros ∷ []
      unfolding spans Elems Zeros New
      spans_are =
          rw (ne_eqb z 0 (omega (arith, el.start)), entry_for_lem (fine inv b) is, sym e, count_now f b h x inv is)

      pub property_written :
          (k : ℕ) (answer : List ℕ) → Succeeds k →
          Done f h mode c g a out
          (ends R k answer
          (splice (splice (zeroed x.sheet S z) (element_at S z) d) (place x.sheet properties i + (property.count).at)
          (bytes_of 2 (max (property.count of S) (z + n - 1)))))
      unfolding New
      property_written k answer low =
          carried_out f b h x inv mode c g a out (P object id n z) (write_property object id n z) refl r
          ((property_is R (now inv b) object id n z (given R (P object id n z)) inv.means.octets (property_id a octets r.reads)).1 (properties-due.of_elements i w el (rw e at size)))
          k answer _ low
          (rw spans_are (count_stored New _ _ data_stored most))
        where
          most : max (property.count of S) (z + n - 1) ≤ property.maximum of entry f.sheet properties i
          most = omega (arith, counted_low, el.end, maximum_same)
