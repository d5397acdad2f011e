-- The lanes that a run gives back with its image.
use Rattle.std.specs.Prelude.{◌≡◌, Option, Some, None}
use Rattle.world_parts.specs.domain_laws.Domain.{DomainState, Lanes, lanes_in}
use Rattle.ldom_report.specs.declared.status.Status.{Status}
use Rattle.ldom_report.specs.declared.status.Status.TheVariants as status

-- where there is an image, they are
abbrev pub LanesOver : {D : Type 0} → Option D → Option Lanes → DomainState → Type 0
LanesOver None lanes final = lanes ≡ None
LanesOver (Some image) lanes final = lanes ≡ Some (lanes_in final)

-- The lanes are those to which the journal led. There are none exactly where there is no image, and at `ImageSize`.
abbrev pub LanesStand : {D : Type 0} → Status → Option D → Option Lanes → DomainState → Type 0
LanesStand (status.ImageSize need have) image lanes final = lanes ≡ None
LanesStand other image lanes final = LanesOver image lanes final
