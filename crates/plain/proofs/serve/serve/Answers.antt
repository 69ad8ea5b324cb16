-- `plain::serve::serve` meets its contract.
use Rattle.octets.proofs.Kit.{refl}
use Rattle.plain.proofs.{Arms.{with_data, without_data, is_answer, short_data, memory_long, user_long, bits_long}}
use Rattle.plain.proofs.serve.serve.Goals as goal

pub group_read-requires : goal.group_read-requires
group_read-requires c = c.requires.0

pub group_put-requires : goal.group_put-requires
group_put-requires c = c.requires.0

pub group_put-requires-in-GroupValueWrite : goal.group_put-requires-in-GroupValueWrite
group_put-requires-in-GroupValueWrite c = c.requires.0

pub property_read-requires : goal.property_read-requires
property_read-requires c = c.requires.0

pub property_write-requires : goal.property_write-requires
property_write-requires c = (c.requires.0, short_data c.requires.1 _ _ _ _ c.in-PropertyValueWrite.is)

pub description-requires : goal.description-requires
description-requires c = c.requires.0

pub memory_read-requires : goal.memory_read-requires
memory_read-requires c = c.requires.0

pub memory_write-requires : goal.memory_write-requires
memory_write-requires c = (c.requires.0, memory_long c.requires.1 _ _ c.in-MemoryWrite.is)

pub bit_write-requires : goal.bit_write-requires
bit_write-requires c = (c.requires.0, bits_long c.requires.1 _ _ c.in-MemoryBitWrite.is)

pub memory_read-requires-in-UserMemoryRead : goal.memory_read-requires-in-UserMemoryRead
memory_read-requires-in-UserMemoryRead c = c.requires.0

pub memory_write-requires-in-UserMemoryWrite : goal.memory_write-requires-in-UserMemoryWrite
memory_write-requires-in-UserMemoryWrite c = (c.requires.0, user_long c.requires.1 _ _ c.in-UserMemoryWrite.is)

pub returns-in-GroupValueRead : goal.returns-in-GroupValueRead
returns-in-GroupValueRead c = without_data _ _ _ _ _ _ _ c.in-GroupValueRead.is c.requires.1 refl c.group_read.ensures

pub returns-in-GroupValueResponse : goal.returns-in-GroupValueResponse
returns-in-GroupValueResponse c = with_data _ _ _ _ _ _ _ c.in-GroupValueResponse.is c.group_put.ensures

pub returns-in-GroupValueWrite : goal.returns-in-GroupValueWrite
returns-in-GroupValueWrite c = with_data _ _ _ _ _ _ _ c.in-GroupValueWrite.is c.group_put-in-GroupValueWrite.ensures

pub returns-in-IndividualAddressWrite : goal.returns-in-IndividualAddressWrite
returns-in-IndividualAddressWrite c = without_data _ _ _ _ _ _ _ c.in-IndividualAddressWrite.is c.requires.1 refl c.address_write.ensures

pub returns-in-IndividualAddressRead : goal.returns-in-IndividualAddressRead
returns-in-IndividualAddressRead c = without_data _ _ _ _ _ _ _ c.in-IndividualAddressRead.is c.requires.1 refl c.address_read.ensures

pub returns-in-SerialNumberRead : goal.returns-in-SerialNumberRead
returns-in-SerialNumberRead c = without_data _ _ _ _ _ _ _ c.in-SerialNumberRead.is c.requires.1 refl c.serial_read.ensures

pub returns-in-SerialNumberWrite : goal.returns-in-SerialNumberWrite
returns-in-SerialNumberWrite c = without_data _ _ _ _ _ _ _ c.in-SerialNumberWrite.is c.requires.1 refl c.serial_write.ensures

pub returns-in-DeviceDescriptorRead : goal.returns-in-DeviceDescriptorRead
returns-in-DeviceDescriptorRead c = without_data _ _ _ _ _ _ _ c.in-DeviceDescriptorRead.is c.requires.1 refl c.descriptor.ensures

pub returns-in-PropertyValueRead : goal.returns-in-PropertyValueRead
returns-in-PropertyValueRead c = without_data _ _ _ _ _ _ _ c.in-PropertyValueRead.is c.requires.1 refl c.property_read.ensures

pub returns-in-PropertyValueWrite : goal.returns-in-PropertyValueWrite
returns-in-PropertyValueWrite c = with_data _ _ _ _ _ _ _ c.in-PropertyValueWrite.is c.property_write.ensures

pub returns-in-PropertyDescriptionRead : goal.returns-in-PropertyDescriptionRead
returns-in-PropertyDescriptionRead c = without_data _ _ _ _ _ _ _ c.in-PropertyDescriptionRead.is c.requires.1 refl c.description.ensures

pub returns-in-MemoryRead : goal.returns-in-MemoryRead
returns-in-MemoryRead c = without_data _ _ _ _ _ _ _ c.in-MemoryRead.is c.requires.1 refl c.memory_read.ensures

pub returns-in-MemoryWrite : goal.returns-in-MemoryWrite
returns-in-MemoryWrite c = with_data _ _ _ _ _ _ _ c.in-MemoryWrite.is c.memory_write.ensures

pub returns-in-MemoryBitWrite : goal.returns-in-MemoryBitWrite
returns-in-MemoryBitWrite c = with_data _ _ _ _ _ _ _ c.in-MemoryBitWrite.is c.bit_write.ensures

pub returns-in-AuthorizeRequest : goal.returns-in-AuthorizeRequest
returns-in-AuthorizeRequest c = without_data _ _ _ _ _ _ _ c.in-AuthorizeRequest.is c.requires.1 refl c.authorize.ensures

pub returns-in-KeyWrite : goal.returns-in-KeyWrite
returns-in-KeyWrite c = without_data _ _ _ _ _ _ _ c.in-KeyWrite.is c.requires.1 refl c.key_write.ensures

pub returns-in-Restart : goal.returns-in-Restart
returns-in-Restart c = without_data _ _ _ _ _ _ _ c.in-Restart.is c.requires.1 refl c.restart.ensures

pub returns-in-IndividualAddressResponse : goal.returns-in-IndividualAddressResponse
returns-in-IndividualAddressResponse c = is_answer _ _ _ _ _ _ _ c.in-IndividualAddressResponse.is (λ s. refl) c.refused.ensures

pub returns-in-SerialNumberResponse : goal.returns-in-SerialNumberResponse
returns-in-SerialNumberResponse c = is_answer _ _ _ _ _ _ _ c.in-SerialNumberResponse.is (λ s. refl) c.refused-in-SerialNumberResponse.ensures

pub returns-in-DeviceDescriptorResponse : goal.returns-in-DeviceDescriptorResponse
returns-in-DeviceDescriptorResponse c = is_answer _ _ _ _ _ _ _ c.in-DeviceDescriptorResponse.is (λ s. refl) c.refused-in-DeviceDescriptorResponse.ensures

pub returns-in-PropertyValueResponse : goal.returns-in-PropertyValueResponse
returns-in-PropertyValueResponse c = is_answer _ _ _ _ _ _ _ c.in-PropertyValueResponse.is (λ s. refl) c.refused-in-PropertyValueResponse.ensures

pub returns-in-PropertyDescriptionResponse : goal.returns-in-PropertyDescriptionResponse
returns-in-PropertyDescriptionResponse c = is_answer _ _ _ _ _ _ _ c.in-PropertyDescriptionResponse.is (λ s. refl) c.refused-in-PropertyDescriptionResponse.ensures

pub returns-in-MemoryResponse : goal.returns-in-MemoryResponse
returns-in-MemoryResponse c = is_answer _ _ _ _ _ _ _ c.in-MemoryResponse.is (λ s. refl) c.refused-in-MemoryResponse.ensures

pub returns-in-AuthorizeResponse : goal.returns-in-AuthorizeResponse
returns-in-AuthorizeResponse c = is_answer _ _ _ _ _ _ _ c.in-AuthorizeResponse.is (λ s. refl) c.refused-in-AuthorizeResponse.ensures

pub returns-in-KeyResponse : goal.returns-in-KeyResponse
returns-in-KeyResponse c = is_answer _ _ _ _ _ _ _ c.in-KeyResponse.is (λ s. refl) c.refused-in-KeyResponse.ensures

pub returns-in-UserMemoryRead : goal.returns-in-UserMemoryRead
returns-in-UserMemoryRead c = without_data _ _ _ _ _ _ _ c.in-UserMemoryRead.is c.requires.1 refl c.memory_read-in-UserMemoryRead.ensures

pub returns-in-UserMemoryResponse : goal.returns-in-UserMemoryResponse
returns-in-UserMemoryResponse c = is_answer _ _ _ _ _ _ _ c.in-UserMemoryResponse.is (λ s. refl) c.refused-in-UserMemoryResponse.ensures

pub returns-in-UserMemoryWrite : goal.returns-in-UserMemoryWrite
returns-in-UserMemoryWrite c = with_data _ _ _ _ _ _ _ c.in-UserMemoryWrite.is c.memory_write-in-UserMemoryWrite.ensures
