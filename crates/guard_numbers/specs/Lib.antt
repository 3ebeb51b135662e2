-- What the contracts of `guard_numbers` cite beside the definitions.
pub mod OpenNumbers
