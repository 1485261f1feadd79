-- Added  resource-added  a MAC-RESOURCE on its way out is added as the header that it is the encoding of
pub mod Added
