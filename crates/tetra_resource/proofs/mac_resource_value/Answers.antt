use Rattle.tetra_resource.specs.Laws.MacResource.{value-of-parts}
use Rattle.tetra_resource.proofs.mac_resource_value.Goals as goal

pub returns : goal.returns
returns c =
    value-of-parts _ c.assembled.ensures c.first_fields.ensures c.address_of.ensures c.power_of.ensures c.element_value.ensures c.element_value-2.ensures
