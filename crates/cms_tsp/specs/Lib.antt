pub mod Requests
pub mod Responses
pub mod Received
pub mod Spans
pub mod CertificateIdentifiers
pub mod TstInfo
