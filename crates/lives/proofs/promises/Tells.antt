-- WHAT IS IN THE HISTORY: all that was answered after its save, for good; and what a cut takes is the newest, together. Assumes nothing.
use Rattle.octets.proofs.Kit.{ℕ, ◌≤◌, ◌≡◌, refl, sym, ap, subst, ◌∙◌, true, false, List, [], ◌∷◌, ◌++◌, append_assoc, replicate, le-ltb}
use Rattle.events.specs.Events.{Event, disconnect, request}
use Rattle.link.specs.{Serving.{longest, most, apdu_of}, Net.{Net, heard_in}, declared.Arrived.TheVariants.Request}
use Rattle.host.specs.Steps.{served_events}
use Rattle.lives.specs.Life.{Happening, saved, late, cut, tell, telling, told, kept, EndsIn, gone_on}

on : {es gs : List Event} (new : List Event) → EndsIn es gs → EndsIn es (new ++ gs)
on {es} new (gone_on more e) = gone_on (new ++ more) (ap (λ (l : List Event). new ++ l) e ∙ sym (append_assoc new more es))

-- WHAT A CUT TAKES is the newest, all of it together: the history goes on from what the medium has
pub lost_together : (h : List Happening) → EndsIn (kept h) (told h)
unfolding telling tell
lost_together [] = gone_on [] refl
lost_together (saved es ∷ h) = gone_on [] refl
lost_together (late es ∷ h) = on es (lost_together h)
lost_together (cut set es ∷ h) = gone_on [] refl

-- what was kept once stays kept
module _ (es : List Event) where
  kept_stays : (g h : List Happening) → EndsIn es (told h) → EndsIn es (kept h) → EndsIn es (told (g ++ h)) × EndsIn es (kept (g ++ h))
  unfolding telling tell
  kept_stays [] h a b = (a, b)
  kept_stays (saved ds ∷ g) h a b = let p = on ds (kept_stays g h a b).0 in (p, p)
  kept_stays (late ds ∷ g) h a b = let p = kept_stays g h a b in (on ds p.0, p.1)
  kept_stays (cut true ds ∷ g) h a b = let p = on (disconnect 1 ∷ disconnect 0 ∷ ds) (kept_stays g h a b).0 in (p, p)
  kept_stays (cut false ds ∷ g) h a b = let p = on (disconnect 1 ∷ disconnect 0 ∷ []) (kept_stays g h a b).1 in (p, p)

-- WHAT WAS ANSWERED AFTER ITS SAVE IS IN THE HISTORY, whatever happens then, at its place: the history goes on from it
pub answered_stays : (g h : List Happening) (es : List Event) → EndsIn (es ++ told h) (told (g ++ (saved es ∷ h)))
unfolding telling tell
answered_stays g h es = (kept_stays (es ++ told h) g (saved es ∷ h) (gone_on [] refl) (gone_on [] refl)).0

-- WORKED: a was saved and answered, b and c wait, and the power is lost during d; without the mark of its save, with it; and once more, after e
pub tells_worked :
    (a b c d e : Event) →
    (told (cut false (d ∷ []) ∷ late (c ∷ []) ∷ late (b ∷ []) ∷ saved (a ∷ []) ∷ []) ≡ disconnect 1 ∷ disconnect 0 ∷ a ∷ [])
    × (told (cut true (d ∷ []) ∷ late (c ∷ []) ∷ late (b ∷ []) ∷ saved (a ∷ []) ∷ []) ≡ disconnect 1 ∷ disconnect 0 ∷ d ∷ c ∷ b ∷ a ∷ [])
    × (told (cut false [] ∷ late (e ∷ []) ∷ cut true (d ∷ []) ∷ saved (a ∷ []) ∷ []) ≡ disconnect 1 ∷ disconnect 0 ∷ disconnect 1 ∷ disconnect 0 ∷ d ∷ a ∷ [])
unfolding telling tell
tells_worked a b c d e = (refl, refl, refl)

-- WHAT WAS ACKNOWLEDGED, to whichever partner: a frame that was heard as a request on connection c, was served, saved and then acknowledged, is in the history, on that connection
pub acknowledged_stays :
    (g h : List Happening) (y : Net) (b : List ℕ) (room mode c group : ℕ) → longest ≤ room → heard_in y b ≡ Request mode c group →
    EndsIn (request mode c group (apdu_of b) (replicate most 0) ∷ told h) (told (g ++ (saved (served_events y b room) ∷ h)))
acknowledged_stays g h y b room mode c group r e =
    let q : served_events y b room ≡ request mode c group (apdu_of b) (replicate most 0) ∷ [] = rw (le-ltb room longest r, e) in
    subst (λ (es : List Event). EndsIn (es ++ told h) (told (g ++ (saved (served_events y b room) ∷ h)))) q (answered_stays g h (served_events y b room))
