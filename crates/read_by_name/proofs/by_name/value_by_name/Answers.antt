-- Each arm: which option it has, and that what is read has the option's form.
use Rattle.read_names.specs.Names.{form_of}
use Rattle.read_by_name.proofs.Options.{only_within}
use Rattle.read_by_name.proofs.by_name.value_by_name.Goals as goal

pub returns-in-Protocol : goal.returns-in-Protocol
unfolding form_of
returns-in-Protocol c = rw c.in-Protocol.is c.protocol_option.ensures

pub returns-in-Flow : goal.returns-in-Flow
unfolding form_of
returns-in-Flow c = rw c.in-Flow.is c.flow_option.ensures

pub returns-in-SameIp : goal.returns-in-SameIp
unfolding form_of
returns-in-SameIp c = rw c.in-SameIp.is c.same_ip_option.ensures

pub returns-in-IpId : goal.returns-in-IpId
unfolding form_of
returns-in-IpId c = rw c.in-IpId.is c.number_option.ensures

pub returns-in-SourcePort : goal.returns-in-SourcePort
unfolding form_of
returns-in-SourcePort c = rw c.in-SourcePort.is c.number_option-in-SourcePort.ensures

pub returns-in-DestinationPort : goal.returns-in-DestinationPort
unfolding form_of
returns-in-DestinationPort c = rw c.in-DestinationPort.is c.number_option-in-DestinationPort.ensures

pub returns-in-IpTos : goal.returns-in-IpTos
unfolding form_of
returns-in-IpTos c = rw c.in-IpTos.is c.number_option-in-IpTos.ensures

pub returns-in-IpTtl : goal.returns-in-IpTtl
unfolding form_of
returns-in-IpTtl c = rw c.in-IpTtl.is c.ttl_option.ensures

pub returns-in-HeaderTotalLength : goal.returns-in-HeaderTotalLength
unfolding form_of
returns-in-HeaderTotalLength c = rw c.in-HeaderTotalLength.is c.field_option.ensures

pub returns-in-HeaderId : goal.returns-in-HeaderId
unfolding form_of
returns-in-HeaderId c = rw c.in-HeaderId.is c.field_option-in-HeaderId.ensures

pub returns-in-HeaderChecksum : goal.returns-in-HeaderChecksum
unfolding form_of
returns-in-HeaderChecksum c = rw c.in-HeaderChecksum.is c.field_option-in-HeaderChecksum.ensures

pub returns-in-HeaderTtl : goal.returns-in-HeaderTtl
unfolding form_of
returns-in-HeaderTtl c = rw c.in-HeaderTtl.is c.field_option-in-HeaderTtl.ensures

pub returns-in-DataSize : goal.returns-in-DataSize
unfolding form_of
returns-in-DataSize c = rw c.in-DataSize.is c.size_option.ensures

pub returns-in-DataAt : goal.returns-in-DataAt
unfolding form_of
returns-in-DataAt c = rw c.in-DataAt.is c.at_option.ensures

pub returns-in-ByteTest : goal.returns-in-ByteTest
unfolding form_of
returns-in-ByteTest c = rw c.in-ByteTest.is c.byte_option.ensures

pub returns-in-Context : goal.returns-in-Context
unfolding form_of
returns-in-Context c = rw c.in-Context.is c.context_option.ensures

pub returns-in-NoCase : goal.returns-in-NoCase
unfolding form_of
returns-in-NoCase c = rw c.in-NoCase.is c.no_case_option.ensures

pub returns-in-Distance : goal.returns-in-Distance
unfolding form_of
returns-in-Distance c = rw c.in-Distance.is c.distance_option.ensures

pub returns-in_default : goal.returns-in_default
unfolding form_of
returns-in_default c = rw (only_within c.args.o c.requires.1 (record { not-Protocol = c.in_default.not-Protocol; not-Flow = c.in_default.not-Flow; not-SameIp = c.in_default.not-SameIp; not-IpId = c.in_default.not-IpId; not-SourcePort = c.in_default.not-SourcePort; not-DestinationPort = c.in_default.not-DestinationPort; not-IpTos = c.in_default.not-IpTos; not-IpTtl = c.in_default.not-IpTtl; not-HeaderTotalLength = c.in_default.not-HeaderTotalLength; not-HeaderId = c.in_default.not-HeaderId; not-HeaderChecksum = c.in_default.not-HeaderChecksum; not-HeaderTtl = c.in_default.not-HeaderTtl; not-DataSize = c.in_default.not-DataSize; not-DataAt = c.in_default.not-DataAt; not-ByteTest = c.in_default.not-ByteTest; not-Context = c.in_default.not-Context; not-NoCase = c.in_default.not-NoCase; not-Distance = c.in_default.not-Distance })) c.within_option.ensures
