-- The count of a property by the history is the count of the sheet.
use Rattle.octets.proofs.Kit.{ℕ, ◌+◌, ◌<◌, ◌≡◌, ap, ◌∙◌, List, get_or, arith}
use Rattle.octets.proofs.Numbers.{num_two}
use Rattle.sheet.{specs.{Kind.properties, Layout.◌of◌, Entries.{place, entry}, Places.PropertyWith}, proofs.{alike.Sames.place_same, places.Standing.field_at}}
use Rattle.sheet.specs.Property as property
use Rattle.device.specs.Events.{State}
use Rattle.events.specs.Events.{Event}
use Rattle.history.specs.{Location.counter, Permit.count_in, History.{First, content}, Keeps.Begins}
use Rattle.history.proofs.{steps.Invariant.{Inv, fine}, stored.PropertyRun.counter_place}

module _ (f : First) (b : Begins f) (h : List Event) (x : State) (inv : Inv f h x) {object id i : ℕ} (is : PropertyWith f.sheet object id i) where
  pub count_now : count_in (content f h) object id ≡ property.count of entry x.sheet properties i
  unfolding count_in
  count_now =
      let q = place_same inv.means.agree properties i in
      let o : ℕ = place x.sheet properties i + (property.count).at in
      let at : (j p : ℕ) → j < 2 → p ≡ o + j → get_or x.sheet p 0 ≡ content f h (counter object id j) =
      λ j p k e.
      ap (λ (o : ℕ). get_or x.sheet o 0) (let z : p ≡ place f.sheet properties i + (property.count).at + j = omega arith in z)
      ∙ inv.means.holds (counter object id j) _ (counter_place (fine inv b) is j k) in
      omega (arith, field_at x.sheet properties i property.count (omega arith), num_two x.sheet o, at 0 o (omega arith) (omega arith), at 1 (o + 1) (omega arith) (omega arith))
