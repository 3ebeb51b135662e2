-- Which options are left to a last arm, after those that the arms before it name.
use mathlib.Core.Path.{◌≡◌, refl}
use Rattle.read_names.specs.declared.options.OptionName.{OptionName}
use Rattle.read_names.specs.declared.options.OptionName.TheVariants as option
use Rattle.read_by_name.specs.Parsing.{Single}

-- the option has none of the names of the arms before
pub record Unnamed (o : OptionName) : Type 0 where
  pub not-Protocol : o ≡ option.Protocol → ⊥
  pub not-Flow : o ≡ option.Flow → ⊥
  pub not-SameIp : o ≡ option.SameIp → ⊥
  pub not-IpId : o ≡ option.IpId → ⊥
  pub not-SourcePort : o ≡ option.SourcePort → ⊥
  pub not-DestinationPort : o ≡ option.DestinationPort → ⊥
  pub not-IpTos : o ≡ option.IpTos → ⊥
  pub not-IpTtl : o ≡ option.IpTtl → ⊥
  pub not-HeaderTotalLength : o ≡ option.HeaderTotalLength → ⊥
  pub not-HeaderId : o ≡ option.HeaderId → ⊥
  pub not-HeaderChecksum : o ≡ option.HeaderChecksum → ⊥
  pub not-HeaderTtl : o ≡ option.HeaderTtl → ⊥
  pub not-DataSize : o ≡ option.DataSize → ⊥
  pub not-DataAt : o ≡ option.DataAt → ⊥
  pub not-ByteTest : o ≡ option.ByteTest → ⊥
  pub not-Context : o ≡ option.Context → ⊥
  pub not-NoCase : o ≡ option.NoCase → ⊥
  pub not-Distance : o ≡ option.Distance → ⊥

-- of within and the lists, only within stands alone
pub only_within : (o : OptionName) → Single o → Unnamed o → o ≡ option.Within
only_within option.Name s n = absurd (s.0 refl)
only_within option.Protocol s n = absurd (n.not-Protocol refl)
only_within option.Flow s n = absurd (n.not-Flow refl)
only_within option.SourceAddress s n = absurd (s.1 refl)
only_within option.DestinationAddress s n = absurd (s.2 refl)
only_within option.SameIp s n = absurd (n.not-SameIp refl)
only_within option.IpId s n = absurd (n.not-IpId refl)
only_within option.SourcePort s n = absurd (n.not-SourcePort refl)
only_within option.DestinationPort s n = absurd (n.not-DestinationPort refl)
only_within option.IpTos s n = absurd (n.not-IpTos refl)
only_within option.IpTtl s n = absurd (n.not-IpTtl refl)
only_within option.HeaderTotalLength s n = absurd (n.not-HeaderTotalLength refl)
only_within option.HeaderId s n = absurd (n.not-HeaderId refl)
only_within option.HeaderChecksum s n = absurd (n.not-HeaderChecksum refl)
only_within option.HeaderTtl s n = absurd (n.not-HeaderTtl refl)
only_within option.DataSize s n = absurd (n.not-DataSize refl)
only_within option.DataAt s n = absurd (n.not-DataAt refl)
only_within option.ByteTest s n = absurd (n.not-ByteTest refl)
only_within option.Pattern s n = absurd (s.3 refl)
only_within option.Context s n = absurd (n.not-Context refl)
only_within option.NoCase s n = absurd (n.not-NoCase refl)
only_within option.Distance s n = absurd (n.not-Distance refl)
only_within option.Within s n = refl
