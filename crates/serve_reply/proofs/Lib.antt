-- records sent whole or not at all; requests that go on with an initiator
pub mod Sending
pub mod Initiators
