mod AckCalls
mod ApiCalls
