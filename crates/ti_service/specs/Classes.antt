-- An agent that is told of classes.
use Rattle.std.specs.Prelude.{◌≡◌, List}
use mathlib.Core.List.{IsPrefix}
use Rattle.ti_methods.specs.declared.info.ClassInfo.{ClassInfo}
use Rattle.ti_service.specs.Memberships.{AgentValue}
use Rattle.ti_service.specs.Service.{with_classes}

-- the classes that it has seen, in the order of their numbers
abbrev pub classes_of : AgentValue → List ClassInfo
classes_of a = a.home.service.cell.classes.seen

-- Nothing has changed but which classes the agent has seen. They begin with those that it had seen, and are of the same table
pub record SeesClasses (old new : AgentValue) : Type 0 where
  pub service : new.home.service ≡ with_classes old.home.service new.home.service.cell.classes
  pub book : new.home.service.cell.classes.book ≡ old.home.service.cell.classes.book
  pub grows : IsPrefix (classes_of old) (classes_of new)
  pub env : new.env ≡ old.env
  pub waiting : new.home.waiting ≡ old.home.waiting
  pub events : new.home.events ≡ old.home.events
  pub unmet : new.home.unmet ≡ old.home.unmet
