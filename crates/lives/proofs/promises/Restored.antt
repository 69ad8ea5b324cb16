-- A VERSION OF THE SETTINGS THROUGH POWER CUTS: the store is kept in two slots of its own, so that after a cut it is a store that was kept; what was saved is then restored. Assumes nothing.
use Rattle.octets.proofs.Kit.{ℕ, ◌≡◌, sym, ap, subst, ◌∙◌, true, List, ◌∷◌, ◌++◌}
use Rattle.octets.specs.Octets.{Octets}
use Rattle.versions.specs.{Saving.SavedAs, Sequence.{Change, changed_all, AllSpare}, declared.saving.Saved.Saved}
use Rattle.events.specs.Events.{Event}
use Rattle.history.{specs.{History.{opened, level}, Calls.Follows, Restored.BroughtBack}, proofs.promises.RestoredLater.restored_over_history}
use Rattle.link.specs.Net.{state_of}
use Rattle.host.specs.Calls.{Restores}
use Rattle.lives.specs.Life.{Running, Happening, saved, Ran, begin, next, tell, telling, told, first_of, Begun, EndsIn, gone_on}
use Rattle.lives.proofs.promises.{Lives.lives_follow, Tells.answered_stays}

-- lives one after the other
ran_on : {x y z : Running} {h g : List Happening} → Ran x h y → Ran y g z → Ran x (g ++ h) z
ran_on k begin = k
ran_on k (next l c) = next (ran_on k l) c

-- SAVED, LIVED ON AND RESTORED: a version of a sheet that the medium has, any life after it, any changes of the store that spare the version, and a restore for a connection open at level 0
pub lives_restored :
    {x y z : Running} {h g : List Happening} {es : List Event} → Begun x → Ran x (saved es ∷ h) y →
    {st : List ℕ} {r : Saved} {st' : List ℕ} → Octets st → SavedAs y.net.sheet st r st' → r.outcome ≡ 0 →
    Ran y g z → (cs : List Change) → AllSpare r.number cs →
    (c : ℕ) → opened (first_of x) (told (g ++ (saved es ∷ h))) c ≡ true → level (first_of x) (told (g ++ (saved es ∷ h))) c ≡ 0 →
    (n : ℕ) (s' : List ℕ) → Restores z.net.link.sessions c z.net.sheet (changed_all cs st') r.number n s' →
    BroughtBack (first_of x) (told (saved es ∷ h)) (told (g ++ (saved es ∷ h))) n s'
unfolding telling tell
lives_restored {x} {y} {z} {h} {g} {es} b k {st} {r} {st'} small kept ok l cs spared c live zero n s' p = go (answered_stays g h es)
  where
    go : EndsIn (es ++ told h) (told (g ++ (saved es ∷ h))) → BroughtBack (first_of x) (es ++ told h) (told (g ++ (saved es ∷ h))) n s'
    go (gone_on new e) =
        subst (λ (t : List Event). BroughtBack (first_of x) (es ++ told h) t n s') (sym e)
        (restored_over_history b.begins (lives_follow b k) st small (sym kept.outcome ∙ ok) cs (rw kept.number at spared) new
        (subst (λ (t : List Event). Follows (first_of x) t (state_of z.net)) e (lives_follow b (ran_on k l)))
        (rw kept.store at p.store_bytes) c (sym (ap (λ (t : List Event). opened (first_of x) t c) e) ∙ live) (sym (ap (λ (t : List Event). level (first_of x) t c) e) ∙ zero) n s'
        (rw (kept.store, kept.number) at p.did))
