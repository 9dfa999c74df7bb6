-- Laws: what a tenant is answered alone depends on its state and its own events, and on nothing else.
use Rattle.std.specs.Prelude.{◌≡◌, ℕ, List, ◌++◌}
use Rattle.etcd_model.specs.declared.state.History.{History}
use Rattle.etcd_model.specs.declared.state.State.{State}
use Rattle.etcd_model.specs.Alone.{Turn, own, asked, told, alone, alone_after}

pub record WorldLaws : Type 0 where
  -- own events are picked out once, and from each part of a list in its turn
  pub own_of_own : (tenant : List ℕ) (turns : List Turn) → own tenant (own tenant turns) ≡ own tenant turns
  pub own_of_appended : (tenant : List ℕ) (turns more : List Turn)
      → own tenant (turns ++ more) ≡ own tenant turns ++ own tenant more
  -- Two hosts, each with its turns: if a tenant begins in one state in both, asks for the same events of its
  -- own, and each answers it as if it was alone, it is answered alike, whatever the others of the two do.
  pub two_worlds : (tenant : List ℕ) (S T : State History) (here there : List Turn) → S ≡ T
      → asked (own tenant here) ≡ asked (own tenant there)
      → told (own tenant here) ≡ alone S (asked (own tenant here))
      → told (own tenant there) ≡ alone T (asked (own tenant there))
      → (told (own tenant here) ≡ told (own tenant there))
      × (alone_after S (asked (own tenant here)) ≡ alone_after T (asked (own tenant there)))
